-- An entry of a row is the least total, by the row after. Assumes nothing.
use Rattle.std.proofs.Common.{◌≡◌, ℕ, ◌+◌, ◌*◌, ◌/◌, ◌<◌, ◌≤◌, min, List, length, drop, set, replicate, sum, sym, refl, ap, subst, inl, inr, arith}
use Rattle.std.proofs.lemmas.List.{drop_all, get_or-set_same, length-replicate}
use Rattle.std.proofs.lemmas.Bool.{cases_lt}
use Rattle.pegs.specs.declared.peg.FixedLevel.{FixedLevel}
use Rattle.pegs.specs.declared.slot.Slot.{Slot}
use Rattle.fitting.specs.declared.alignment.Standing.{Standing}
use Rattle.fitting.specs.Rows.{LeastFrom, RowMeans, none}
use Rattle.fitting.specs.Rules.{Closed, GradePasses, MeetsFrom, PegKeeps, StretchKeeps, Verdicts, len}
use Rattle.fitting.specs.Walked.{EndsFlat, Joins, LeastJoined, RowOpen}
use Rattle.fitting.proofs.FromPeg.{meets_before, meets_later, meets_none, sum_drop, sum-drop-set, sum_short, whole_steps}

module _ (c : Verdicts) (ps : List Standing) (fixed : List (Slot FixedLevel)) where
  -- a list from the peg t on, made of one from the peg after
  pub before : (t l : ℕ) (ls : List ℕ) → t < length ps → MeetsFrom c ps fixed (t + 1) ls → PegKeeps c ps t l → (t + 1 < length ps → StretchKeeps c ps fixed t l (len ls (t + 1))) → (ms : List ℕ) × MeetsFrom c ps fixed t ms × (len ms t ≡ l) × (sum (drop t ms) ≡ l + sum (drop (t + 1) ls))
  before t l ls b m p s =
      let d : t < length ls = omega (arith, m.count) in
      (set ls t l, meets_before c ps fixed t l ls b m p s, get_or-set_same ls t l 0 d, sum-drop-set ls t l d)

  -- at the last peg the total is its own length
  pub least_last : (t k : ℕ) → t + 1 ≡ length ps → PegKeeps c ps t (5 * k) → LeastFrom c ps fixed t k (5 * k)
  least_last t k e p =
      let zeros : List ℕ = replicate (length ps) 0 in
      let after : MeetsFrom c ps fixed (t + 1) zeros = subst (λ z. MeetsFrom c ps fixed z zeros) (sym e) (meets_none c ps fixed) in
      let nothing : sum (drop (t + 1) zeros) ≡ 0 = ap sum (drop_all (t + 1) zeros (omega (arith, length-replicate {A = ℕ} (length ps) 0))) in
      let new = before t (5 * k) zeros (omega arith) after p (λ l. absurd (omega arith)) in
      record {
        found = λ f. (new.0, new.1, new.2, omega (arith, new.3));
        least = λ ls m h. omega (arith, sum_drop ls t (omega (arith, m.count)));
      }

  -- what joins keeps the rules of its stretch, where the code passes the grade
  pub joins_keeps : (t l r : ℕ) → GradePasses c ps t → Joins ps fixed t l r → StretchKeeps c ps fixed t l r
  joins_keeps t l r g j = record { grade = g; apart = j.0; kept = j.1 }

  pub same_stretch : (t l l' r r' : ℕ) → l ≡ l' → r ≡ r' → StretchKeeps c ps fixed t l r → StretchKeeps c ps fixed t l' r'
  same_stretch t l l' r r' a b s = subst (λ z. StretchKeeps c ps fixed t l' z) b (subst (λ z. StretchKeeps c ps fixed t z r) a s)

  -- before the last peg, the total is its own length and the least total after it
  pub least_more : (next : ℕ → ℕ) (t k m e : ℕ) → t + 1 < length ps → GradePasses c ps t → PegKeeps c ps t (5 * k) → RowMeans c ps fixed next (t + 1) → LeastJoined ps fixed next t (5 * k) 401 m → e ≡ min (m + 5 * k) none → LeastFrom c ps fixed t k e
  least_more next t k m e b g p row low is = record {
    found = λ f.
        let j = low.found (omega arith) in
        let after = (row j.0 j.1).found (omega (arith, j.3)) in
        let keeps = same_stretch t (5 * k) (5 * k) (5 * j.0) (len after.0 (t + 1)) refl (sym after.2) (joins_keeps t (5 * k) (5 * j.0) g j.2) in
        let new = before t (5 * k) after.0 (omega arith) after.1 p (λ l. keeps) in
        (new.0, new.1, new.2, omega (arith, new.3, after.3, j.3));
    least = λ ls ms here.
        let j = len ls (t + 1) / 5 in
        let w = whole_steps c ps fixed t ls ms (t + 1) (omega arith) b in
        let keeps = same_stretch t (len ls t) (5 * k) (len ls (t + 1)) (5 * (len ls (t + 1) / 5)) here w.0 (ms.stretches t (omega arith) b) in
        omega (
          arith,
          low.least j w.1 (keeps.apart, keeps.kept),
          (row j w.1).least ls (meets_later c ps fixed t (t + 1) ls (omega arith) ms) w.0,
          sum_drop ls t (omega (arith, ms.count)),
        );
  }

  -- a total is at most its own length and a total after it that it may stand before
  pub no_more : (row next : ℕ → ℕ) (t k j : ℕ) → t + 1 < length ps → k < 401 → j < 401 → RowMeans c ps fixed row t → RowMeans c ps fixed next (t + 1) → PegKeeps c ps t (5 * k) → StretchKeeps c ps fixed t (5 * k) (5 * j) → next j < none → row k ≤ 5 * k + next j
  no_more row next t k j b k-below j-below means after-means p s f =
      let after = (after-means j j-below).found f in
      let keeps = same_stretch t (5 * k) (5 * k) (5 * j) (len after.0 (t + 1)) refl (sym after.2) s in
      let new = before t (5 * k) after.0 (omega arith) after.1 p (λ l. keeps) in
      omega (arith, (means k k-below).least new.0 new.1 new.2, new.3, after.3)

  -- a total at the last peg is that of the length 0
  pub ends_flat : (row : ℕ → ℕ) (t : ℕ) → RowMeans c ps fixed row t → EndsFlat ps row t
  ends_flat row t means e k b f =
      let at = (means k b).found f in
      omega (arith, at.2, (at.1.pegs t (omega arith) (omega arith)).last e)

  -- a row with a total leaves the road open
  pub row_open : (row : ℕ → ℕ) (t : ℕ) → RowMeans c ps fixed row t → RowOpen row → Closed c ps fixed t → ⊥
  row_open row t means there closed =
      let at = (means there.0 there.1).found there.2 in
      closed at.0 at.1

  module _ (most : length ps ≤ 40) (row : ℕ → ℕ) where
    -- a row without totals closes the road
    pub row_closed : (t : ℕ) → t < length ps → RowMeans c ps fixed row t → ((k : ℕ) → k < 401 → row k ≡ none) → Closed c ps fixed t
    row_closed t b means empty ls m =
        let w = whole_steps c ps fixed t ls m t (omega arith) b in
        let k = len ls t / 5 in
        omega (arith, (means k w.1).least ls m w.0, empty k w.1, sum_short c ps fixed t ls m)

    -- a road that is open has a total in its first row, at the length 0
    pub first_open : 0 < length ps → RowMeans c ps fixed row 0 → (Closed c ps fixed 0 → ⊥) → row 0 < none
    first_open b means there =
        elim (cases_lt (row 0) none) [
          | inl l ↦ l
          | inr l ↦ absurd (there (λ ls m.
              omega (arith, (means 0 (omega arith)).least ls m ((m.pegs 0 (omega arith) b).first refl), sum_short c ps fixed 0 ls m)))
        ]
