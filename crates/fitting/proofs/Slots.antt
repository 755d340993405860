-- A slot past the end holds nothing. Assumes nothing.
use Rattle.std.proofs.Common.{◌≡◌, ℕ, ◌<◌, ◌≤◌, List, length, Some, None, Option, sym, ap, ◌∙◌, ⊎_elim, arith}
use Rattle.std.proofs.lemmas.List.{get_or_past}
use Rattle.std.proofs.lemmas.Bool.{cases_lt}
use Rattle.pegs.specs.Slots.{untouched}
use Rattle.pegs.specs.declared.slot.Slot.{Slot}
use Rattle.fitting.specs.Ready.{held_at}

pub none_is_not_some : {V : Type 0} (v : V) → ◌≡◌ {A = Option V} None (Some v) → ⊥
none_is_not_some v e = let z : ◌≡◌ {A = ℕ} 0 1 = cc in absurd (omega arith)

pub none_past : {V : Type 0} (slots : List (Slot V)) (n : ℕ) → length slots ≤ n → held_at slots n ≡ None
none_past slots n far = ap (λ s. s.held) (get_or_past slots n untouched far)

-- what holds of whatever the slots hold, holds wherever one looks
pub every_slot : {V : Type 0} (slots : List (Slot V)) (P : V → Type 0) → ((m : ℕ) → m < length slots → (v : V) → held_at slots m ≡ Some v → P v)
    → (n : ℕ) (v : V) → held_at slots n ≡ Some v → P v
every_slot slots P h n v e =
    ⊎_elim
    (λ (low : n < length slots). h n low v e)
    (λ (far : length slots ≤ n). absurd (none_is_not_some v (sym (none_past slots n far) ∙ e)))
    (cases_lt n (length slots))
