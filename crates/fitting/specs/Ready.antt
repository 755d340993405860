-- Which pegs are in force, and when a road may be fitted. Assumes nothing.
use Rattle.std.specs.Prelude.{◌≡◌, ℕ, suc, ◌+◌, ◌<◌, ◌≤◌, List, [], ◌∷◌, length, Some, None, Option, slice_index_or}
use Rattle.pegs.specs.Slots.{untouched}
use Rattle.pegs.specs.declared.peg.FixedLevel.{FixedLevel}
use Rattle.pegs.specs.declared.peg.Peg.{Peg}
use Rattle.pegs.specs.declared.slot.Slot.{Slot}
use Rattle.rules.specs.Refusals.{refusal_number}
use Rattle.rules.specs.declared.refusal.Refusal.TheVariants as figure
use Rattle.fitting.specs.declared.alignment.Standing.{Standing}
use Rattle.fitting.specs.Line.{FiguresFine, OnRoad, Rising, number, station}
use Rattle.fitting.specs.declared.ready.NotReady.{NotReady}
use Rattle.fitting.specs.declared.ready.NotReady.TheVariants.{TooFewPegs, StationsNotRising, FixedLevelOff}

-- a peg that a slot holds stands before the pegs after it
abbrev pub then_standing : ℕ → Option Peg → List Standing → List Standing
then_standing n None ps = ps
then_standing n (Some p) ps = record { number = n; point = record { station = p.station; level = p.level } } ∷ ps

-- the pegs that slots hold, numbered from n on
abbrev pub standing_from : ℕ → List (Slot Peg) → List Standing
standing_from n [] = []
standing_from n (s ∷ ss) = then_standing n s.held (standing_from (suc n) ss)

-- the pegs in force, in the order of their numbers
abbrev pub in_force : List (Slot Peg) → List Standing
in_force slots = standing_from 0 slots

-- what the n-th slot holds
abbrev pub held_at : {V : Type 0} → List (Slot V) → ℕ → Option V
held_at slots n = (slice_index_or slots n untouched).held

-- figures of pegs are in range
abbrev pub PegsFine : List (Slot Peg) → Type 0
PegsFine slots = (n : ℕ) (p : Peg) → held_at slots n ≡ Some p → (p.station ≤ 10000) × (p.level ≤ 9000000)

-- figures of fixed levels are in range, and low is at most high
abbrev pub FixedFine : List (Slot FixedLevel) → Type 0
FixedFine slots = (n : ℕ) (f : FixedLevel) → held_at slots n ≡ Some f → (f.station ≤ 10000) × (f.low ≤ f.high) × (f.high ≤ 9000000)

-- where the n-th slot holds a fixed level, it lies from the first peg to the last
abbrev pub LevelOn : List Standing → List (Slot FixedLevel) → ℕ → Type 0
LevelOn ps fixed n = (f : FixedLevel) → held_at fixed n ≡ Some f → OnRoad ps f.station

abbrev pub FixedOn : List Standing → List (Slot FixedLevel) → Type 0
FixedOn ps fixed = (n : ℕ) → LevelOn ps fixed n

-- what every alignment has: two pegs or more, at most 40, that rise; sixteen slots of fixed levels, all on it; figures in range
pub record SoundAlignment (ps : List Standing) (fixed : List (Slot FixedLevel)) : Type 0 where
  pub least : 2 ≤ length ps
  pub most : length ps ≤ 40
  pub rising : Rising ps
  pub figures : FiguresFine ps
  pub sixteen : length fixed ≡ 16
  pub fixed_fine : FixedFine fixed
  pub fixed_on : FixedOn ps fixed

-- the first peg from which the station doesn't rise by 10 m to the next
pub record NotRisingAt (ps : List Standing) (i : ℕ) : Type 0 where
  pub there : i + 1 < length ps
  pub short : station ps (i + 1) < station ps i + 10
  pub first : (j : ℕ) → j < i → station ps j + 10 ≤ station ps (j + 1)

-- the first fixed level that lies off the road
pub record OffRoadAt (ps : List Standing) (fixed : List (Slot FixedLevel)) (n : ℕ) : Type 0 where
  pub off : LevelOn ps fixed n → ⊥
  pub first : (m : ℕ) → m < n → LevelOn ps fixed m

-- why an alignment isn't ready: the reason applies, and none that is told before it
abbrev pub IsNotReady : List Standing → List (Slot FixedLevel) → NotReady → Type 0
IsNotReady ps fixed TooFewPegs = length ps < 2
IsNotReady ps fixed (StationsNotRising p) = (2 ≤ length ps) × ((i : ℕ) × (p ≡ number ps i) × NotRisingAt ps i)
IsNotReady ps fixed (FixedLevelOff n) = (2 ≤ length ps) × Rising ps × OffRoadAt ps fixed n

-- two pegs or more whose stations rise, and every fixed level lies on the road
pub record Ready (ps : List Standing) (fixed : List (Slot FixedLevel)) : Type 0 where
  pub least : 2 ≤ length ps
  pub rising : Rising ps
  pub fixed_on : FixedOn ps fixed

-- the numbers by which these refusals are told
abbrev pub not_ready_number : NotReady → ℕ
not_ready_number TooFewPegs = 22
not_ready_number (StationsNotRising p) = refusal_number figure.StationsNotRising
not_ready_number (FixedLevelOff n) = 24
