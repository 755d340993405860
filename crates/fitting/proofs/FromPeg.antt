-- Lengths that keep every rule from a peg on: one peg more, one less, and how long they are together. Assumes nothing.
use Rattle.std.proofs.Common.{◌≡◌, ℕ, ◌+◌, ◌*◌, ◌/◌, ◌<◌, ◌≤◌, List, length, drop, set, replicate, sum, sym, ap, ◌∙◌, subst, inl, inr, arith}
use Rattle.std.proofs.ByRecursion.{All-from_get_or, sum_by_le}
use Rattle.std.proofs.lemmas.List.{drop-set, get_or-drop, get_or-set_other, get_or-set_same, length-drop, length-replicate, length-set}
use Rattle.std.proofs.lemmas.List.Sums.{sum_by-cons, sum_by-drop_more}
use Rattle.std.proofs.lemmas.Bool.{cases_eq}
use Rattle.pegs.specs.declared.peg.FixedLevel.{FixedLevel}
use Rattle.pegs.specs.declared.slot.Slot.{Slot}
use Rattle.fitting.specs.declared.alignment.Standing.{Standing}
use Rattle.fitting.specs.Rules.{MeetsFrom, PegKeeps, StretchKeeps, Verdicts, len}

-- the sum from the peg t on, with a new length there
pub sum-drop-set : (ls : List ℕ) (t l : ℕ) → t < length ls → sum (drop t (set ls t l)) ≡ l + sum (drop (t + 1) ls)
sum-drop-set ls t l b = ap sum (drop-set ls t l b) ∙ sum_by-cons (λ x. x) l (drop (t + 1) ls)

pub sum_drop : (ls : List ℕ) (t : ℕ) → t < length ls → sum (drop t ls) ≡ len ls t + sum (drop (t + 1) ls)
sum_drop ls t b = sum_by-drop_more (λ x. x) ls t 0 b

module _ (c : Verdicts) (ps : List Standing) (fixed : List (Slot FixedLevel)) where
  -- later pegs keep their rules without those before
  pub meets_later : (t u : ℕ) (ls : List ℕ) → t ≤ u → MeetsFrom c ps fixed t ls → MeetsFrom c ps fixed u ls
  meets_later t u ls b m = record {
    count = m.count;
    pegs = λ i a d. m.pegs i (omega arith) d;
    stretches = λ i a d. m.stretches i (omega arith) d;
  }

  -- after the last peg there is no rule
  pub meets_none : MeetsFrom c ps fixed (length ps) (replicate (length ps) 0)
  meets_none = record {
    count = length-replicate (length ps) 0;
    pegs = λ i a b. absurd (omega arith);
    stretches = λ i a b. absurd (omega arith);
  }

  -- a peg in front of the pegs after it
  pub meets_before : (t l : ℕ) (ls : List ℕ) → t < length ps → MeetsFrom c ps fixed (t + 1) ls → PegKeeps c ps t l → (t + 1 < length ps → StretchKeeps c ps fixed t l (len ls (t + 1))) → MeetsFrom c ps fixed t (set ls t l)
  meets_before t l ls b m p s =
      let same : len (set ls t l) t ≡ l = get_or-set_same ls t l 0 (omega (arith, m.count)) in
      let other : (i : ℕ) → t < i → len (set ls t l) i ≡ len ls i = λ i a. get_or-set_other ls t i l 0 (omega arith) in
      record {
        count = length-set ls t l ∙ m.count;
        pegs = λ i a d. elim (cases_eq i t) [
          | inl e ↦ subst (λ z. PegKeeps c ps z (len (set ls t l) z)) (sym e) (subst (λ z. PegKeeps c ps t z) (sym same) p)
          | inr ne ↦ subst (λ z. PegKeeps c ps i z) (sym (other i (omega arith))) (m.pegs i (omega arith) d)
        ];
        stretches = λ i a d. elim (cases_eq i t) [
          | inl e ↦ subst (λ z. StretchKeeps c ps fixed z (len (set ls t l) z) (len (set ls t l) (z + 1))) (sym e)
              (subst (λ z. StretchKeeps c ps fixed t z (len (set ls t l) (t + 1))) (sym same)
              (subst (λ z. StretchKeeps c ps fixed t l z) (sym (other (t + 1) (omega arith))) (s (omega arith))))
          | inr ne ↦ subst (λ z. StretchKeeps c ps fixed i z (len (set ls t l) (i + 1))) (sym (other i (omega arith)))
              (subst (λ z. StretchKeeps c ps fixed i (len ls i) z) (sym (other (i + 1) (omega arith))) (m.stretches i (omega arith) d))
        ];
      }

  module _ (t : ℕ) (ls : List ℕ) (m : MeetsFrom c ps fixed t ls) where
    -- each length is a whole number of steps, at most 400
    pub whole_steps : (i : ℕ) → t ≤ i → i < length ps → (len ls i ≡ 5 * (len ls i / 5)) × (len ls i / 5 < 401)
    whole_steps i a b =
        let p = m.pegs i a b in
        (omega (arith, p.step), omega (arith, p.most))

    -- the lengths of at most 40 pegs are far from the end of the numbers
    pub sum_short : sum (drop t ls) ≤ length ps * 2000
    sum_short =
        let all = All-from_get_or (λ x. x ≤ 2000) (drop t ls) 0 (λ i b.
        let d : t + i < length ps = omega (arith, length-drop t ls, m.count) in
        subst (λ z. z ≤ 2000) (sym (get_or-drop t ls i 0)) (m.pegs (t + i) (omega arith) d).most) in
        omega (arith, sum_by_le (λ x. x) 2000 (drop t ls) all, length-drop t ls, m.count)
