-- What an update does to a slot. Assumes nothing.
use Rattle.std.specs.Prelude.{◌≡◌, ℕ, ◌<◌, None, Ok, Err, Option, Result}
use Rattle.pegs.specs.declared.slot.Late.{Late}
use Rattle.pegs.specs.declared.slot.Late.TheVariants.{Lower, Equal}
use Rattle.pegs.specs.declared.slot.Slot.{Slot}

-- a slot that was never edited
abbrev pub untouched : {T : Type 0} → Slot T
untouched = record { last = 0; held = None }

-- a higher sequence number writes the slot; a lower or equal one leaves it
abbrev pub Updated : {T : Type 0} → Slot T → ℕ → Option T → Slot T → Result (Unit {0}) Late → Type 0
Updated b s v a (Ok u) = (b.last < s) × (a ≡ record { last = s; held = v })
Updated b s v a (Err Lower) = (s < b.last) × (a ≡ b)
Updated b s v a (Err Equal) = (s ≡ b.last) × (a ≡ b)
