-- Which tables of pegs and fixed levels are sound. Assumes nothing.
use Rattle.std.specs.Prelude.{◌≡◌, ℕ, ◌^◌, ◌<◌, ◌≤◌, List, length, Some, None, slice_index_or}
use Rattle.pegs.specs.Slots.{untouched}
use Rattle.pegs.specs.Tables.{peg_slot, fixed_slot}
use Rattle.pegs.specs.declared.peg.Peg.{Peg}
use Rattle.pegs.specs.declared.peg.FixedLevel.{FixedLevel}
use Rattle.pegs.specs.declared.slot.Slot.{Slot}
use Rattle.pegs.specs.declared.tables.Tables.{Tables}

-- a peg whose station and level are in range
abbrev pub GoodPeg : Peg → Type 0
GoodPeg p = (p.station ≤ 10000) × (p.level ≤ 9000000)

-- a fixed level whose figures are in range and in order
abbrev pub GoodFixed : FixedLevel → Type 0
GoodFixed x = (x.station ≤ 10000) × (x.low ≤ x.high) × (x.high ≤ 9000000)

-- slots of one table: sequence numbers of 32 bits, nothing held where nothing was edited, and only what is good
pub record SoundSlots {T : Type 0} (Good : T → Type 0) (ss : List (Slot T)) : Type 0 where
  pub fits : (i : ℕ) → (slice_index_or ss i untouched).last < 2 ^ 32
  pub never : (i : ℕ) → (slice_index_or ss i untouched).last ≡ 0 → (slice_index_or ss i untouched).held ≡ None
  pub good : (i : ℕ) (x : T) → (slice_index_or ss i untouched).held ≡ Some x → Good x

-- tables of 40 pegs and 16 fixed levels with sound slots
pub record Sound (t : Tables) : Type 0 where
  pub peg_count : length t.pegs ≡ 40
  pub peg_fits : (i : ℕ) → (peg_slot t i).last < 2 ^ 32
  pub peg_never : (i : ℕ) → (peg_slot t i).last ≡ 0 → (peg_slot t i).held ≡ None
  pub peg_good : (i : ℕ) (p : Peg) → (peg_slot t i).held ≡ Some p → GoodPeg p
  pub fixed_count : length t.fixed ≡ 16
  pub fixed_fits : (i : ℕ) → (fixed_slot t i).last < 2 ^ 32
  pub fixed_never : (i : ℕ) → (fixed_slot t i).last ≡ 0 → (fixed_slot t i).held ≡ None
  pub fixed_good : (i : ℕ) (x : FixedLevel) → (fixed_slot t i).held ≡ Some x → GoodFixed x
