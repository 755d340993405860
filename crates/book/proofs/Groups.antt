-- Laws of the groups of seven bits, and what a read keeps. Assumes nothing.
use Rattle.std.proofs.Common.{◌≡◌, ℕ, zero, suc, ◌+◌, ◌-◌, ◌*◌, ◌/◌, ◌%◌, ◌^◌, ◌<◌, ◌≤◌, List, [], ◌∷◌, ◌++◌, length, get_or, take, drop, set, sym, refl, ap, ◌∙◌, ⊎_elim, append_assoc, add_assoc, mul_assoc, mul-add, add-one, arith, length-drop, length-take, min, pow_mono, below_more}
use Rattle.std.proofs.lemmas.Bool.{lt-ltb, le-ltb, cases_lt}
use Rattle.std.proofs.lemmas.Nat.{mul-le, pow-add, div_below}
use Rattle.std.proofs.lemmas.List.{take_more, take-append-drop, drop-drop, get_or-drop, get_or-take, length-take-le, set_split}
use Rattle.book.specs.Numbers.{groups, number, over, put, Stands, Tops}
use Rattle.book.specs.Book.{written}
use Rattle.book.proofs.Writes.{Leads, length_none, length-written, put_step}
use Rattle.book.proofs.Writes as Writes

pub one : (f n : ℕ) → n < 128 → groups (suc f) n ≡ n ∷ []
unfolding groups
one f n h = rw (lt-ltb n 128 h) refl

pub more : (f n : ℕ) → 128 ≤ n → groups (suc f) n ≡ (128 + n % 128) ∷ groups f (n / 128)
unfolding groups
more f n h = rw (le-ltb n 128 h) refl

-- numbers take five bytes each at most
pub groups_most : (f n : ℕ) → length (groups f n) ≤ f
unfolding groups
groups_most zero n = omega arith
groups_most (suc f) n = ⊎_elim (λ h. rw (one f n h) (omega arith)) (λ h. rw (more f n h) (omega (arith, groups_most f (n / 128)))) (cases_lt n 128)

pub written_most : (ns : List ℕ) → length (written ns) ≤ 5 * length ns
written_most [] = omega (arith, length_none)
written_most (n ∷ ns) = omega (arith, length-written n ns, groups_most 5 n, written_most ns)

-- how many bytes numbers of two groups and more take
pub length_two : (n : ℕ) → 128 ≤ n → n < 16384 → 2 ≡ length (number n)
length_two n h l = let k : n / 128 < 128 = omega arith in rw (more 4 n h, one 3 (n / 128) k) refl

pub length_three : (n : ℕ) → 16384 ≤ n → n < 2097152 → 3 ≡ length (number n)
length_three n h l =
    let a : 128 ≤ n = omega arith in
    let b : 128 ≤ n / 128 = omega arith in
    let k : n / 128 / 128 < 128 = omega arith in
    rw (more 4 n a, more 3 (n / 128) b, one 2 (n / 128 / 128) k) refl

pub length_four : (n : ℕ) → 2097152 ≤ n → n < 268435456 → 4 ≡ length (number n)
length_four n h l =
    let a : 128 ≤ n = omega arith in
    let b : 128 ≤ n / 128 = omega arith in
    let d : 128 ≤ n / 128 / 128 = omega arith in
    let k : n / 128 / 128 / 128 < 128 = omega arith in
    rw (more 4 n a, more 3 (n / 128) b, more 2 (n / 128 / 128) d, one 1 (n / 128 / 128 / 128) k) refl

pub length_five : (n : ℕ) → 268435456 ≤ n → n < 2 ^ 32 → 5 ≡ length (number n)
length_five n h l =
    let a : 128 ≤ n = omega arith in
    let b : 128 ≤ n / 128 = omega arith in
    let d : 128 ≤ n / 128 / 128 = omega arith in
    let g : 128 ≤ n / 128 / 128 / 128 = omega arith in
    let k : n / 128 / 128 / 128 / 128 < 128 = omega arith in
    rw (more 4 n a, more 3 (n / 128) b, more 2 (n / 128 / 128) d, more 1 (n / 128 / 128 / 128) g, one 0 (n / 128 / 128 / 128 / 128) k) refl

pub group : (f b m : ℕ) → b < 128 → 0 < m → groups (suc f) (b + 128 * m) ≡ (128 + b) ∷ groups f m
group f b m h k =
    let d : (b + 128 * m) / 128 ≡ m = omega arith in
    let r : (b + 128 * m) % 128 ≡ b = omega arith in
    let g : 128 ≤ b + 128 * m = omega arith in
    more f (b + 128 * m) g ∙ rw (d, r) refl

-- k bytes of a number that goes on are read
pub record Begun (bs : List ℕ) (at k value scale : ℕ) : Type 0 where
  pub tops : Tops bs at k
  pub within : at + k ≤ length bs
  pub below : value < scale
  pub power : scale ≡ 2 ^ (7 * k)
  pub rest : (f m : ℕ) → (0 < k → 0 < m) → groups (k + f) (value + scale * m) ≡ take k (drop at bs) ++ groups f m

pub none : (bs : List ℕ) (at : ℕ) → at ≤ length bs → Begun bs at 0 0 1
none bs at h = record {
  tops = λ j l. absurd (omega arith);
  within = omega arith;
  below = omega arith;
  power = refl;
  rest = λ f m _. let e : 0 + 1 * m ≡ m = omega arith in let z : 0 + f ≡ f = omega arith in rw (e, z) refl;
}

module _ (bs : List ℕ) (at k value scale : ℕ) (b : Begun bs at k value scale) (lt : at + k < length bs) where
  taken : take (k + 1) (drop at bs) ≡ take k (drop at bs) ++ (get_or bs (at + k) 0 ∷ [])
  taken =
      let l : k < length (drop at bs) = simp length-drop (omega arith) in
      take_more (drop at bs) k 0 l ∙ ap (λ x. take k (drop at bs) ++ (x ∷ [])) (get_or-drop at bs k 0)

  spread : 128 ≤ get_or bs (at + k) 0 → get_or bs (at + k) 0 < 256 → (f m : ℕ) → 0 < m
      → groups (k + 1 + f) (value + scale * (get_or bs (at + k) 0 - 128) + scale * 128 * m) ≡ take (k + 1) (drop at bs) ++ groups f m
  spread top byte f m pos =
      let small : get_or bs (at + k) 0 - 128 < 128 = omega arith in
      let back : 128 + (get_or bs (at + k) 0 - 128) ≡ get_or bs (at + k) 0 = omega arith in
      let fuel : k + 1 + f ≡ k + suc f = omega arith in
      let sum : value + scale * (get_or bs (at + k) 0 - 128) + scale * 128 * m ≡ value + scale * ((get_or bs (at + k) 0 - 128) + 128 * m) =
      rw (mul-add scale (get_or bs (at + k) 0 - 128) (128 * m), mul_assoc scale 128 m) (omega arith) in
      rw (fuel, sum)
      (b.rest (suc f) ((get_or bs (at + k) 0 - 128) + 128 * m) (λ _. omega arith)
      ∙ (ap (λ l. take k (drop at bs) ++ l) (group f (get_or bs (at + k) 0 - 128) m small pos)
      ∙ (rw (back, taken, append_assoc) refl)))

  pub next : 128 ≤ get_or bs (at + k) 0 → get_or bs (at + k) 0 < 256 → Begun bs at (k + 1) (value + scale * (get_or bs (at + k) 0 - 128)) (scale * 128)
  next top byte =
      record {
        tops = below_more (λ j. 128 ≤ get_or bs (at + j) 0) k b.tops top;
        within = omega arith;
        below = omega (arith, b.below, mul-le scale (get_or bs (at + k) 0 - 128) scale 127 (omega arith) (omega arith));
        power = let e : 7 * (k + 1) ≡ 7 * k + 7 = omega arith in rw (e, pow-add 2 (7 * k) 7, b.power) refl;
        rest = λ f m h. let pos : 0 < m = h (omega arith) in spread top byte f m pos;
      }

  pub under : get_or bs (at + k) 0 < 128 → k < 5 → value + scale * get_or bs (at + k) 0 < 2 ^ 35
  under small few =
      let p : 7 * k ≤ 28 = omega arith in
      omega (arith, b.below, b.power, pow_mono p, mul-le scale (get_or bs (at + k) 0) scale 127 (omega arith) (omega arith))

  whole : get_or bs (at + k) 0 < 128 → (0 < k → 0 < get_or bs (at + k) 0) → k < 5 → number (value + scale * get_or bs (at + k) 0) ≡ take (k + 1) (drop at bs)
  whole small shortest few =
      let fuel : 5 ≡ k + suc (4 - k) = omega arith in
      let h = b.rest (suc (4 - k)) (get_or bs (at + k) 0) shortest in
      ap (λ f. groups f (value + scale * get_or bs (at + k) 0)) fuel ∙ (h ∙ (ap (λ x. take k (drop at bs) ++ x) (one (4 - k) (get_or bs (at + k) 0) small) ∙ sym taken))

  pub last : get_or bs (at + k) 0 < 128 → (0 < k → 0 < get_or bs (at + k) 0) → k < 5
      → Stands bs at (number (value + scale * get_or bs (at + k) 0)) (at + k + 1)
  last small shortest few =
      let l : k + 1 ≤ length (drop at bs) = simp length-drop (omega arith) in
      let e = whole small shortest few in
      let n : length (take (k + 1) (drop at bs)) ≡ k + 1 = length-take-le (k + 1) (drop at bs) l in
      record {
        bytes = rw (e, add_assoc at k 1) (sym (take-append-drop (k + 1) (drop at bs)) ∙ ap (λ x. take (k + 1) (drop at bs) ++ x) (drop-drop (k + 1) at bs));
        end = rw (e, n) (omega arith);
        within = omega arith;
      }

-- the first m bytes from a place on: how many there are, and one of them
pub length_groups : (bs : List ℕ) (at m r : ℕ) → length (take m (take r (drop at bs))) ≡ min m (min r (length bs - at))
length_groups bs at m r = omega (arith, length-take m (take r (drop at bs)), length-take r (drop at bs), length-drop at bs)

pub byte_at : (bs : List ℕ) (at m r k : ℕ) → k < length (take m (take r (drop at bs))) → (get_or (take m (take r (drop at bs))) k 0 ≡ get_or bs (at + k) 0) × (at + k < length bs) × (k < m)
byte_at bs at m r k h =
    let l = length_groups bs at m r in
    (get_or-take m (take r (drop at bs)) k 0 (omega arith) ∙ (get_or-take r (drop at bs) k 0 (omega arith) ∙ get_or-drop at bs k 0), omega arith, omega arith)

-- one byte written is a write of one byte
set_put : (xs : List ℕ) (i b : ℕ) → i < length xs → set xs i b ≡ put xs i (b ∷ [])
set_put xs i b h = set_split xs i b h ∙ rw add-one refl

-- some byte is always written
pub some : (f n : ℕ) → 1 ≤ length (groups (suc f) n)
some f n = ⊎_elim (λ h. rw (one f n h) (omega arith)) (λ h. rw (more f n h) (omega arith)) (cases_lt n 128)

-- the groups of what is left lead to the whole number
pub record Going (start : List ℕ) (n : ℕ) (out : List ℕ) (end left : ℕ) : Type 0 where
  pub more : ℕ
  pub small : left < 2 ^ (7 * suc more)
  pub leads : Leads start (number n) out end (groups (suc more) left)

pub begin : (start : List ℕ) (n : ℕ) → n < 2 ^ 32 → Going start n start 0 n
begin start n h = record { more = 4; small = omega arith; leads = Writes.begin start (number n) }

module _ {start : List ℕ} {n : ℕ} {out : List ℕ} {end left : ℕ} (g : Going start n out end left) (fits : length (number n) ≤ length out) where
  pub inside : end < length out
  inside = omega (arith, some g.more left, g.leads.end)

  step_at : (f : ℕ) → left < 2 ^ (7 * suc f) → Leads start (number n) out end (groups (suc f) left) → 128 ≤ left → Going start n (set out end (128 + left % 128)) (end + 1) (left / 128)
  step_at zero h l b = absurd (omega arith)
  step_at (suc f) h l b =
      let p : 7 * suc (suc f) ≡ 7 * suc f + 7 = omega arith in
      let q : 2 ^ (7 * suc (suc f)) ≡ 2 ^ (7 * suc f) * 128 = rw (p, pow-add 2 (7 * suc f) 7) refl in
      record {
        more = f;
        small = div_below left 128 (2 ^ (7 * suc f)) (omega arith) (rw q at h);
        leads = rw (set_put out end (128 + left % 128) inside) (put_step l ((128 + left % 128) ∷ []) (groups (suc f) (left / 128)) (more (suc f) left b) fits);
      }

  pub step : 128 ≤ left → Going start n (set out end (128 + left % 128)) (end + 1) (left / 128)
  step h = step_at g.more g.small g.leads h

  pub stop : left < 128 → (end + 1 ≡ length (number n)) × (set out end left ≡ over start (number n))
  stop h = rw (set_put out end left inside) (Writes.stop (put_step g.leads (left ∷ []) [] (one g.more left h) fits) refl)
