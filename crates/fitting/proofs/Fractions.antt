-- Which fractions the code's exact numbers are, and what they tell of a level. Assumes nothing.
use Rattle.std.proofs.Common.{◌≡◌, ℕ, ◌+◌, ◌*◌, ◌<◌, ◌≤◌, ℤ, pos, ◌-ℤ◌, ◌*ℤ◌, ap, mul-le-mul_right, lt_of_mul-lt-mul_right, mul-lt-mul_of_pos_right, mul-pos, le_of_mul-le-mul_right, arith}
use borrow.Author.Differences.{up, down}
use Rattle.fitting.specs.declared.level.Exact.{Exact}
use Rattle.fitting.specs.Levels.{AtLeast, AtMost, Fraction, Nearest, ◌⊕◌}
use Rattle.fitting.specs.Stretches.{Stands}
use Rattle.fitting.proofs.Differences.{Less, difference, from_le, from_same, own, sum, times, to_le, to_lt, to_same, whole}

-- what a curve adds where it doesn't reach
abbrev pub nothing : Fraction
nothing = record { num = pos 0; den = 1 }

-- f is n / g
pub record Plain (f : Fraction) (n g : ℕ) : Type 0 where
  pub num : Less f.num n 0
  pub den : f.den ≡ g

pub plain_nothing : (f : Fraction) (n g : ℕ) → Plain f n g → Plain (f ⊕ nothing) n g
plain_nothing f n g h =
    let s = sum (times 1 h.num) (times f.den (whole 0)) in
    record { num = record { less = omega (arith, s.less) }; den = omega (arith, h.den) }

-- up less down, as the code holds it
held : (e : Exact) → Less (pos e.up -ℤ pos e.down) (e.up + 0) (0 + e.down)
held e = difference (whole e.up) (whole e.down)

-- n/g + w p²/(k g) = (k n + w p²) / (k g)
pub stands_curved : (f : Fraction) (n g k p : ℕ) (w : ℤ) (wu wd : ℕ) (e : Exact) → Plain f n g → Less w wu wd → 0 < g → 0 < k →
    e.up ≡ k * n + wu * (p * p) → e.down ≡ wd * (p * p) → e.den ≡ k * g →
    Stands (f ⊕ record { num = w *ℤ pos (p * p); den = k * g }) e
stands_curved f n g k p w wu wd e h i some scale eu ed en =
    let a = times e.den (sum (times (k * g) h.num) (times f.den (times (p * p) i))) in
    let b = times (f.den * (k * g)) (held e) in
    let d : 0 < k * g = mul-pos scale some in
    let t : 0 < g * (k * g) = mul-pos some d in
    record { there = rw h.den t; some = rw en d; same = to_same a b (rw (h.den, eu, ed, en) (omega arith)) }

pub stands_plain : (f : Fraction) (n g : ℕ) (e : Exact) → Plain f n g → 0 < g → e.up ≡ n → e.down ≡ 0 → e.den ≡ g → Stands f e
stands_plain f n g e h some eu ed en =
    let a = times e.den h.num in
    let b = times f.den (held e) in
    record { there = omega (arith, h.den); some = omega (arith, en); same = to_same a b (rw (h.den, eu, ed, en) (omega arith)) }

-- `Stands` with both sides moved into the naturals
crossed : (f : Fraction) (e : Exact) → Stands f e → up f.num * e.den + e.down * f.den ≡ e.up * f.den + down f.num * e.den
crossed f e h = omega (arith, from_same (times e.den (own f.num)) (times f.den (held e)) h.same)

pub stands_nothing : (f : Fraction) (e : Exact) → Stands f e → Stands (f ⊕ nothing) e
stands_nothing f e h =
    let a = times e.den (sum (times 1 (own f.num)) (times f.den (whole 0))) in
    let b = times (f.den * 1) (held e) in
    record { there = omega (arith, h.there); some = h.some; same = to_same a b (omega (arith, crossed f e h)) }

pub at_least : (f : Fraction) (e : Exact) (k : ℕ) → Stands f e → k * e.den + e.down ≤ e.up → AtLeast k f
at_least f e k h l =
    let x = crossed f e h in
    let m = mul-le-mul_right f.den l in
    to_le (whole (k * f.den)) (own f.num) (le_of_mul-le-mul_right {k = e.den} (omega arith) h.some)

pub from_at_least : (f : Fraction) (e : Exact) (k : ℕ) → Stands f e → AtLeast k f → k * e.den + e.down ≤ e.up
from_at_least f e k h l =
    let x = crossed f e h in
    let m = mul-le-mul_right e.den (from_le (whole (k * f.den)) (own f.num) l) in
    le_of_mul-le-mul_right {k = f.den} (omega arith) h.there

pub at_most : (f : Fraction) (e : Exact) (k : ℕ) → Stands f e → e.up ≤ k * e.den + e.down → AtMost k f
at_most f e k h l =
    let x = crossed f e h in
    let m = mul-le-mul_right f.den l in
    to_le (own f.num) (whole (k * f.den)) (le_of_mul-le-mul_right {k = e.den} (omega arith) h.some)

pub from_at_most : (f : Fraction) (e : Exact) (k : ℕ) → Stands f e → AtMost k f → e.up ≤ k * e.den + e.down
from_at_most f e k h l =
    let x = crossed f e h in
    let m = mul-le-mul_right e.den (from_le (own f.num) (whole (k * f.den)) l) in
    le_of_mul-le-mul_right {k = f.den} (omega arith) h.there

pub nearest : (f : Fraction) (e : Exact) (r n : ℕ) → Stands f e → e.up ≡ e.down + n →
    2 * e.den * r ≤ 2 * n + e.den → 2 * n + e.den < 2 * e.den * (r + 1) → Nearest f r
nearest f e r n h s low high =
    let x = crossed f e h in
    let t = ap (λ (z : ℕ). z * f.den) s in
    let l = mul-le-mul_right f.den low in
    let m = mul-lt-mul_of_pos_right high h.there in
    let i = sum (times 2 (own f.num)) (whole f.den) in (
      to_le (whole (2 * f.den * r)) i (le_of_mul-le-mul_right {k = e.den} (omega arith) h.some),
      to_lt i (whole (2 * f.den * (r + 1))) (lt_of_mul-lt-mul_right e.den (omega arith)),
    )
