-- One slot through a log of edits. Assumes nothing.
use Rattle.std.proofs.Common.{◌≡◌, ℕ, ◌<◌, ◌≤◌, ◌⊎◌, List, [], ◌∷◌, ◌++◌, length, get_or, set, None, Option, sym, refl, ap, ◌∙◌, subst, inl, inr, ⊎_elim, append_assoc, append-nil, arith, get_or-set_other, get_or-set_same}
use Rattle.std.specs.List.{AllByRecursion}
use Rattle.std.proofs.ByRecursion.{All-push, All-weaker}
use Rattle.std.proofs.lemmas.Bool.{cases_eq}
use Rattle.pegs.specs.Edits.{sequence}
use Rattle.pegs.specs.Slots.{untouched}
use Rattle.pegs.specs.declared.edit.Edit.{Edit}
use Rattle.pegs.specs.declared.slot.Slot.{Slot}
use Rattle.profile.specs.Law.{AsSaid, Highest}

-- the slot is as the log says, its remembered number too
pub record Standing {V : Type 0} (Counts : Edit → Type 0) (said : Edit → Option V) (log : List Edit) (slot : Slot V) : Type 0 where
  pub stands : (AllByRecursion (λ x. Counts x → ⊥) log × (slot.last ≡ 0) × (slot.held ≡ None)) ⊎ ((e : Edit) × Highest Counts log e × (slot.last ≡ sequence e) × (slot.held ≡ said e))
  pub below : AllByRecursion (λ x. Counts x → sequence x ≤ slot.last) log

module _ {V : Type 0} (Counts : Edit → Type 0) (said : Edit → Option V) where
  pub as_said : (log : List Edit) (slot : Slot V) → Standing Counts said log slot → AsSaid Counts said log slot.held
  as_said log slot g = ⊎_elim (λ h. inl (h.0, h.2)) (λ h. inr (h.0, h.1, h.3)) g.stands

  pub none_standing : Standing Counts said [] untouched
  none_standing = record { stands = inl (tt, refl, refl); below = tt }

  -- an edit with a higher number is taken
  taken : (log : List Edit) (slot : Slot V) (e : Edit) → Standing Counts said log slot → Counts e → slot.last < sequence e
      → Standing Counts said (log ++ (e ∷ [])) (record { last = sequence e; held = said e })
  taken log slot e g counts more = record {
    stands = inr (e, record { before = log; after = []; cut = refl; counts = counts; above = All-weaker _ _ (λ x h c. omega (arith, h c)) log g.below; not_below = tt }, refl, refl);
    below = All-push _ log e (All-weaker _ _ (λ x h c. omega (arith, h c)) log g.below) (λ c. omega arith);
  }

  -- an edit that doesn't count, or comes late, leaves the slot
  pub left : (log : List Edit) (slot : Slot V) (e : Edit) → Standing Counts said log slot → (Counts e → (0 < sequence e) × (sequence e ≤ slot.last))
      → Standing Counts said (log ++ (e ∷ [])) slot
  left log slot e g late = record {
    stands = ⊎_elim
        (λ h. inl (All-push _ log e h.0 (λ c. omega (arith, late c, h.1)), h.1, h.2))
        (λ h. inr (
          h.0,
          record {
            before = h.1.before;
            after = h.1.after ++ (e ∷ []);
            cut = ap (λ l. l ++ (e ∷ [])) h.1.cut ∙ append_assoc h.1.before (h.0 ∷ h.1.after) (e ∷ []);
            counts = h.1.counts;
            above = h.1.above;
            not_below = All-push _ h.1.after e h.1.not_below (λ c. omega (arith, late c, h.2));
          },
          h.2,
          h.3,
        ))
        g.stands;
    below = All-push _ log e g.below (λ c. (late c).1);
  }

  -- of a table of slots in which the edit e writes the slot m, the slot n
  pub written_standing : (slots : List (Slot V)) (m n : ℕ) (e : Edit) (log : List Edit) → m < length slots → (m ≡ n → Counts e) → (Counts e → m ≡ n)
      → (get_or slots m untouched).last < sequence e → Standing Counts said log (get_or slots n untouched)
      → Standing Counts said (log ++ (e ∷ [])) (get_or (set slots m (record { last = sequence e; held = said e })) n untouched)
  written_standing slots m n e log fits counts mine more g =
      ⊎_elim
      (λ same. subst (Standing Counts said (log ++ (e ∷ []))) (sym (get_or-set_same slots m _ untouched fits) ∙ ap (λ k. get_or (set slots m (record { last = sequence e; held = said e })) k untouched) same) (taken log (get_or slots n untouched) e g (counts same) (subst (λ k. (get_or slots k untouched).last < sequence e) same more)))
      (λ other. subst (Standing Counts said (log ++ (e ∷ []))) (sym (get_or-set_other slots m n _ untouched (λ k. other (sym k)))) (left log (get_or slots n untouched) e g (λ c. absurd (other (mine c)))))
      (cases_eq m n)

  -- edits that don't count, before the log
  before_it : (e : Edit) (log : List Edit) (slot : Slot V) → (Counts e → ⊥) → Standing Counts said log slot → Standing Counts said (e ∷ log) slot
  before_it e log slot none g = record {
    stands = ⊎_elim
        (λ h. inl ((none, h.0), h.1, h.2))
        (λ h. inr (
          h.0,
          record {
            before = e ∷ h.1.before;
            after = h.1.after;
            cut = ap (λ l. e ∷ l) h.1.cut;
            counts = h.1.counts;
            above = (λ c. absurd (none c), h.1.above);
            not_below = h.1.not_below;
          },
          h.2,
          h.3,
        ))
        g.stands;
    below = (λ c. absurd (none c), g.below);
  }

  pub all_before : (es log : List Edit) (slot : Slot V) → AllByRecursion (λ x. Counts x → ⊥) es → Standing Counts said log slot → Standing Counts said (es ++ log) slot
  all_before [] log slot none g = g
  all_before (e ∷ es) log slot none g = before_it e (es ++ log) slot none.0 (all_before es log slot none.1 g)

  -- and after it
  pub all_after : (log es : List Edit) (slot : Slot V) → AllByRecursion (λ x. Counts x → ⊥) es → Standing Counts said log slot → Standing Counts said (log ++ es) slot
  all_after log [] slot none g = rw append-nil g
  all_after log (e ∷ es) slot none g =
      subst (λ l. Standing Counts said l slot) (append_assoc log (e ∷ []) es)
      (all_after (log ++ (e ∷ [])) es slot none.1 (left log slot e g (λ c. absurd (none.0 c))))
