-- A profile read from a book is as the book's entries say. Assumes nothing.
use Rattle.std.proofs.Common.{◌≡◌, ℕ, zero, suc, ◌+◌, ◌≤◌, false, cond, List, [], ◌∷◌, ◌++◌, get_or, is_some, Option, sym, refl, ap, subst, inl, inr, ⊎_elim, arith}
use Rattle.std.specs.List.{AllByRecursion}
use Rattle.std.proofs.ByRecursion.{All-weaker}
use Rattle.std.proofs.lemmas.Bool.{cases_eq, eq-eqb, ne_eqb}
use Rattle.pegs.specs.Edits.{sequence}
use Rattle.pegs.specs.Slots.{untouched}
use Rattle.pegs.specs.declared.edit.Edit.{Edit}
use Rattle.pegs.specs.declared.slot.Slot.{Slot}
use Rattle.profile.specs.Entries.{entries_from}
use Rattle.profile.proofs.Kept.{nothing_held}
use Rattle.profile.proofs.Standing.{Standing, all_before, none_standing}

-- an untouched slot adds no entry, an edited one adds its own
no_entry : {V : Type 0} (edit : ℕ → ℕ → Option V → Edit) (k : ℕ) (s : Slot V) (ss : List (Slot V)) → s.last ≡ 0 → entries_from edit k (s ∷ ss) ≡ entries_from edit (suc k) ss
unfolding entries_from
no_entry edit k s ss z = ap (λ t. cond t [] (edit k s.last s.held ∷ []) ++ entries_from edit (suc k) ss) (eq-eqb s.last 0 z)

own_entry : {V : Type 0} (edit : ℕ → ℕ → Option V → Edit) (k : ℕ) (s : Slot V) (ss : List (Slot V)) → (s.last ≡ 0 → ⊥)
    → entries_from edit k (s ∷ ss) ≡ edit k s.last s.held ∷ entries_from edit (suc k) ss
unfolding entries_from
own_entry edit k s ss some = ap (λ t. cond t [] (edit k s.last s.held ∷ []) ++ entries_from edit (suc k) ss) (ne_eqb s.last 0 some)

no_slots : {V : Type 0} (edit : ℕ → ℕ → Option V → Edit) (k : ℕ) → entries_from edit k [] ≡ []
unfolding entries_from
no_slots edit k = refl

-- no entry of these slots counts, where none of their numbers does
pub none_count : {V : Type 0} (Counts : Edit → Type 0) (edit : ℕ → ℕ → Option V → Edit) (k : ℕ) (ss : List (Slot V))
    → ((j s : ℕ) (v : Option V) → k ≤ j → Counts (edit j s v) → ⊥) → AllByRecursion (λ x. Counts x → ⊥) (entries_from edit k ss)
none_count Counts edit k [] never = subst (AllByRecursion (λ x. Counts x → ⊥)) (sym (no_slots edit k)) tt
none_count Counts edit k (s ∷ ss) never =
    let rest = none_count Counts edit (suc k) ss (λ j q v h. never j q v (omega arith)) in
    ⊎_elim
    (λ z. subst (AllByRecursion (λ x. Counts x → ⊥)) (sym (no_entry edit k s ss z)) rest)
    (λ some. subst (AllByRecursion (λ x. Counts x → ⊥)) (sym (own_entry edit k s ss some)) (never k s.last s.held (omega arith), rest))
    (cases_eq s.last 0)

-- how edits of one kind of slot are told apart by their numbers
pub record Numbers {V : Type 0} (Counts : ℕ → Edit → Type 0) (edit : ℕ → ℕ → Option V → Edit) (said : Edit → Option V) : Type 0 where
  pub other : (n j s : ℕ) (v : Option V) → (j ≡ n → ⊥) → Counts n (edit j s v) → ⊥
  pub numbered : (j s : ℕ) (v : Option V) → sequence (edit j s v) ≡ s
  pub says : (j s : ℕ) (v : Option V) → said (edit j s v) ≡ v

module _ {V : Type 0} (Counts : ℕ → Edit → Type 0) (edit : ℕ → ℕ → Option V → Edit) (said : Edit → Option V) (apart : Numbers Counts edit said) where
  -- the first slot of a list
  first_standing : (k : ℕ) (s : Slot V) (ss : List (Slot V)) → (s.last ≡ 0 → is_some s.held ≡ false) → ((s.last ≡ 0 → ⊥) → Counts k (edit k s.last s.held))
      → Standing (Counts k) said (entries_from edit k (s ∷ ss)) s
  first_standing k s ss empty fair =
      let rest = none_count (Counts k) edit (suc k) ss (λ j q v h. apart.other k j q v (λ e. omega arith)) in
      ⊎_elim
      (λ z. subst (λ l. Standing (Counts k) said l s) (sym (no_entry edit k s ss z)) (record {
        stands = inl (rest, z, nothing_held s.held (empty z));
        below = All-weaker _ _ (λ x h c. absurd (h c)) (entries_from edit (suc k) ss) rest;
      }))
      (λ some. subst (λ l. Standing (Counts k) said l s) (sym (own_entry edit k s ss some)) (record {
        stands = inr (
          edit k s.last s.held,
          record {
            before = [];
            after = entries_from edit (suc k) ss;
            cut = refl;
            counts = fair some;
            above = tt;
            not_below = All-weaker _ _ (λ x h c. absurd (h c)) (entries_from edit (suc k) ss) rest;
          },
          sym (apart.numbered k s.last s.held),
          sym (apart.says k s.last s.held),
        );
        below = (λ c. omega (arith, apart.numbered k s.last s.held), All-weaker _ _ (λ x h c. absurd (h c)) (entries_from edit (suc k) ss) rest);
      }))
      (cases_eq s.last 0)

  -- the slot i places on, whose number is n
  pub slot_standing : (k : ℕ) (ss : List (Slot V)) (i n : ℕ) → n ≡ k + i
      → ((get_or ss i untouched).last ≡ 0 → is_some (get_or ss i untouched).held ≡ false)
      → (((get_or ss i untouched).last ≡ 0 → ⊥) → Counts n (edit n (get_or ss i untouched).last (get_or ss i untouched).held))
      → Standing (Counts n) said (entries_from edit k ss) (get_or ss i untouched)
  slot_standing k [] i n e empty fair = subst (λ l. Standing (Counts n) said l untouched) (sym (no_slots edit k)) (none_standing (Counts n) said)
  slot_standing k (s ∷ ss) zero n e empty fair =
      let same : n ≡ k = omega arith in
      subst (λ m. Standing (Counts m) said (entries_from edit k (s ∷ ss)) s) (sym same)
      (first_standing k s ss empty (subst (λ m. (s.last ≡ 0 → ⊥) → Counts m (edit m s.last s.held)) same fair))
  slot_standing k (s ∷ ss) (suc i) n e empty fair =
      let rest = slot_standing (suc k) ss i n (omega arith) empty fair in
      ⊎_elim
      (λ z. subst (λ l. Standing (Counts n) said l (get_or ss i untouched)) (sym (no_entry edit k s ss z)) rest)
      (λ some. subst (λ l. Standing (Counts n) said l (get_or ss i untouched)) (sym (own_entry edit k s ss some))
      (all_before (Counts n) said (edit k s.last s.held ∷ []) (entries_from edit (suc k) ss) (get_or ss i untouched)
      (apart.other n k s.last s.held (λ q. omega arith), tt) rest))
      (cases_eq s.last 0)
