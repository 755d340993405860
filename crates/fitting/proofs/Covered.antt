-- The level at a station that the left curve covers, or the right, or neither. Assumes nothing.
use Rattle.std.proofs.Common.{◌≡◌, ℕ, ◌+◌, ◌-◌, ◌*◌, ◌<◌, ◌≤◌, true, false, ltb, pos, ◌*ℤ◌, refl, ap, mul-pos, arith}
use Rattle.rules.specs.Points.{run}
use Rattle.rules.specs.Turns.{base, bend_of, twist}
use Rattle.rules.specs.declared.point.Point.{Point}
use Rattle.rules.specs.declared.turn.Bend.{Bend}
use Rattle.fitting.specs.declared.level.Exact.{Exact}
use Rattle.fitting.specs.declared.level.Stretch.{Stretch}
use Rattle.fitting.specs.Levels.{◌⊕◌, grade_line, level_at, lift}
use Rattle.fitting.specs.Stretches.{Inside, Lengths, Sound, Stands}
use Rattle.fitting.proofs.Differences.{Less, difference, sum, times, whole}
use Rattle.fitting.proofs.Fractions.{Plain, nothing, plain_nothing, stands_curved, stands_nothing, stands_plain}

-- the grade line's two levels, each times the run on its other side
grade_plain : (a b : Point) (s x y : ℕ) → s - a.station ≡ x → run a b ≡ x + y → Plain (grade_line a b s) (a.level * y + b.level * x) (run a b)
grade_plain a b s x y ex eg =
    let i = sum (whole (a.level * run a b)) (times (s - a.station) (difference (whole b.level) (whole a.level))) in
    let e1 = ap (λ (z : ℕ). a.level * z) eg in
    let e2 = ap (λ (z : ℕ). a.level * z) ex in
    let e3 = ap (λ (z : ℕ). b.level * z) ex in
    record { num = record { less = omega (arith, i.less) }; den = refl }

-- W of a turn, as the code's pull has it
twist_pull : (p q r : Point) → Less (twist (bend_of p q r)) (r.level * run p q + p.level * run q r) (q.level * (run p q + run q r))
unfolding twist
twist_pull p q r =
    let a = times (run p q) (difference (whole r.level) (whole q.level)) in
    let b = times (run q r) (difference (whole q.level) (whole p.level)) in
    record { less = omega (arith, (difference a b).less) }

pub falls_short : (b : Bend) (l d : ℕ) → l ≤ 2 * d → lift b l d ≡ nothing
falls_short b l d h = let e : ltb (2 * d) l ≡ false = grind arith in rw e

-- with the denominator as the code has it
reaches : (b : Bend) (l d n : ℕ) → 2 * d < l → 8 * l * base b ≡ n →
    lift b l d ≡ record { num = twist b *ℤ pos ((l - 2 * d) * (l - 2 * d)); den = n }
reaches b l d n h s =
    let e : ltb (2 * d) l ≡ true = grind arith in
    rw e (ap (λ (m : ℕ). record { num = twist b *ℤ pos ((l - 2 * d) * (l - 2 * d)); den = m }) s)

base_left : (p q r : Point) (l : ℕ) → 8 * l * base (bend_of p q r) ≡ 8 * l * run p q * run q r
unfolding base
base_left p q r l = omega arith

base_right : (p q r : Point) (l : ℕ) → 8 * l * base (bend_of p q r) ≡ 8 * l * run q r * run p q
unfolding base
base_right p q r l = omega arith

pub on_left : (t : Stretch) (l r s : ℕ) (e : Exact) → Sound t → Lengths t l r → Inside t s → 2 * (s - t.from.station) < l →
    e.up ≡ 8 * l * run t.before t.from * (t.from.level * (t.to.station - s) + t.to.level * (s - t.from.station))
    + (t.to.level * run t.before t.from + t.before.level * run t.from t.to) * ((l - 2 * (s - t.from.station)) * (l - 2 * (s - t.from.station))) →
    e.down ≡ t.from.level * (run t.before t.from + run t.from t.to) * ((l - 2 * (s - t.from.station)) * (l - 2 * (s - t.from.station))) →
    e.den ≡ 8 * l * run t.before t.from * run t.from t.to →
    Stands (level_at t l r s) e
unfolding level_at
on_left t l r s e sound lengths inside h eu ed en =
    let x = s - t.from.station in
    let y = t.to.station - s in
    let o = run t.before t.from in
    let g = run t.from t.to in
    let here = bend_of t.before t.from t.to in
    let e1 = reaches here l x (8 * l * o * g) h (base_left t.before t.from t.to l) in
    let e2 = falls_short (bend_of t.from t.to t.after) r y (omega arith) in
    let turn = lengths.turns.0 (omega arith) in
    rw (e1, e2)
    (stands_nothing _ e
    (stands_curved (grade_line t.from t.to s) _ g (8 * l * o) (l - 2 * x) (twist here) _ _ e
    (grade_plain t.from t.to s x y refl (omega arith))
    (twist_pull t.before t.from t.to) (omega arith) (mul-pos (omega arith) (omega arith)) eu ed en))

pub on_right : (t : Stretch) (l r s : ℕ) (e : Exact) → Sound t → Lengths t l r → Inside t s → l ≤ 2 * (s - t.from.station) → 2 * (t.to.station - s) < r →
    e.up ≡ 8 * r * run t.to t.after * (t.from.level * (t.to.station - s) + t.to.level * (s - t.from.station))
    + (t.after.level * run t.from t.to + t.from.level * run t.to t.after) * ((r - 2 * (t.to.station - s)) * (r - 2 * (t.to.station - s))) →
    e.down ≡ t.to.level * (run t.from t.to + run t.to t.after) * ((r - 2 * (t.to.station - s)) * (r - 2 * (t.to.station - s))) →
    e.den ≡ 8 * r * run t.to t.after * run t.from t.to →
    Stands (level_at t l r s) e
unfolding level_at
on_right t l r s e sound lengths inside m h eu ed en =
    let x = s - t.from.station in
    let y = t.to.station - s in
    let o = run t.to t.after in
    let g = run t.from t.to in
    let here = bend_of t.from t.to t.after in
    let e1 = falls_short (bend_of t.before t.from t.to) l x m in
    let e2 = reaches here r y (8 * r * o * g) h (base_right t.from t.to t.after r) in
    let turn = lengths.turns.1 (omega arith) in
    rw (e1, e2)
    (stands_curved (grade_line t.from t.to s ⊕ nothing) _ g (8 * r * o) (r - 2 * y) (twist here) _ _ e
    (plain_nothing _ _ _ (grade_plain t.from t.to s x y refl (omega arith)))
    (twist_pull t.from t.to t.after) (omega arith) (mul-pos (omega arith) (omega arith)) eu ed en)

pub on_neither : (t : Stretch) (l r s : ℕ) (e : Exact) → Sound t → Inside t s → l ≤ 2 * (s - t.from.station) → r ≤ 2 * (t.to.station - s) →
    e.up ≡ t.from.level * (t.to.station - s) + t.to.level * (s - t.from.station) → e.down ≡ 0 → e.den ≡ run t.from t.to →
    Stands (level_at t l r s) e
unfolding level_at
on_neither t l r s e sound inside m h eu ed en =
    let x = s - t.from.station in
    let y = t.to.station - s in
    let e1 = falls_short (bend_of t.before t.from t.to) l x m in
    let e2 = falls_short (bend_of t.from t.to t.after) r y h in
    let grade = grade_plain t.from t.to s x y refl (omega arith) in
    rw (e1, e2) (stands_nothing _ e (stands_nothing _ e (stands_plain _ _ _ e grade (omega arith) eu ed en)))
