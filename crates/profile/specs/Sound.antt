-- What holds of every slot of a profile. Assumes nothing.
use Rattle.std.specs.Prelude.{◌≡◌, ℕ, ◌^◌, ◌<◌, ◌≤◌, false, is_some, Some}
use Rattle.pegs.specs.Tables.{fixed_slot, peg_slot}
use Rattle.pegs.specs.declared.peg.FixedLevel.{FixedLevel}
use Rattle.pegs.specs.declared.peg.Peg.{Peg}
use Rattle.pegs.specs.declared.tables.Tables.{Tables}

-- figures of pegs are in range
abbrev pub PegsFine : Tables → Type 0
PegsFine t = (n : ℕ) (p : Peg) → (peg_slot t n).held ≡ Some p → (p.station ≤ 10000) × (p.level ≤ 9000000)

-- figures of fixed levels are in range, and low is at most high
abbrev pub FixedFine : Tables → Type 0
FixedFine t = (n : ℕ) (f : FixedLevel) → (fixed_slot t n).held ≡ Some f → (f.station ≤ 10000) × (f.low ≤ f.high) × (f.high ≤ 9000000)

-- sequence numbers have 32 bits
abbrev pub PegsFit : Tables → Type 0
PegsFit t = (n : ℕ) → (peg_slot t n).last < 2 ^ 32

abbrev pub FixedFit : Tables → Type 0
FixedFit t = (n : ℕ) → (fixed_slot t n).last < 2 ^ 32

-- a slot that was never edited holds nothing
abbrev pub PegsUntouched : Tables → Type 0
PegsUntouched t = (n : ℕ) → (peg_slot t n).last ≡ 0 → is_some (peg_slot t n).held ≡ false

abbrev pub FixedUntouched : Tables → Type 0
FixedUntouched t = (n : ℕ) → (fixed_slot t n).last ≡ 0 → is_some (fixed_slot t n).held ≡ false
