-- When lengths of curves meet every rule. Assumes nothing.
use Rattle.std.specs.Prelude.{◌≡◌, ℕ, ◌+◌, ◌*◌, ◌%◌, ◌<◌, ◌≤◌, List, length, ℤ, Some, slice_index}
use Rattle.pegs.specs.declared.peg.FixedLevel.{FixedLevel}
use Rattle.pegs.specs.declared.slot.Slot.{Slot}
use Rattle.rules.specs.declared.code.RoadCode as code
use Rattle.rules.specs.declared.turn.Bend.{Bend}
use Rattle.fitting.specs.declared.alignment.Standing.{Standing}
use Rattle.fitting.specs.Levels.{AtLeast, AtMost, Fraction, level_at, stretch}
use Rattle.fitting.specs.Line.{climb, gap, station, turn}
use Rattle.fitting.specs.Ready.{held_at}

-- what a road code means: its verdicts on a grade (rise, run) and on a curve (turn, length), 0 for passed
pub record Verdicts : Type 0 where
  pub grade : ℤ → ℕ → ℕ
  pub curve : Bend → ℕ → ℕ

-- the verdicts of a code, by its trait's two
abbrev pub verdicts : {C : Type 0} → code.Ghosts C → C → Verdicts
verdicts bound c = record { grade = bound.grade_verdict c; curve = bound.curve_verdict c }

-- the length of the i-th peg's curve
abbrev pub len : List ℕ → ℕ → ℕ
len ls i = slice_index ls i

-- the i-th peg may have the length l: a multiple of 5 up to 2,000, 0 at both ends, and at a turn the code passes the curve
pub record PegKeeps (c : Verdicts) (ps : List Standing) (i l : ℕ) : Type 0 where
  pub step : l % 5 ≡ 0
  pub most : l ≤ 2000
  pub first : i ≡ 0 → l ≡ 0
  pub last : i + 1 ≡ length ps → l ≡ 0
  pub curve : 0 < i → i + 1 < length ps → c.curve (turn ps i) l ≡ 0

-- a station belongs to the last stretch that starts at or before it
abbrev pub OnStretch : List Standing → ℕ → ℕ → Type 0
OnStretch ps i s = (station ps i ≤ s) × (i + 2 < length ps → s < station ps (i + 1))

-- the exact level lies from low to high
abbrev pub Within : FixedLevel → Fraction → Type 0
Within f x = AtLeast f.low x × AtMost f.high x

-- where the n-th slot holds a fixed level on the i-th stretch, it is kept by the lengths l and r of the stretch's two pegs
abbrev pub FixedKept : List Standing → List (Slot FixedLevel) → (i l r n : ℕ) → Type 0
FixedKept ps fixed i l r n = (f : FixedLevel) → held_at fixed n ≡ Some f → OnStretch ps i f.station → Within f (level_at (stretch ps i) l r f.station)

-- the two lengths together are at most twice the gap
abbrev pub Apart : List Standing → (i l r : ℕ) → Type 0
Apart ps i l r = l + r ≤ 2 * gap ps i

-- the code passes the grade from the i-th peg to the next
abbrev pub GradePasses : Verdicts → List Standing → ℕ → Type 0
GradePasses c ps i = c.grade (climb ps i) (gap ps i) ≡ 0

-- the code passes every grade
abbrev pub GradesPass : Verdicts → List Standing → Type 0
GradesPass c ps = (i : ℕ) → i + 1 < length ps → GradePasses c ps i

-- the i-th stretch keeps its rules with the lengths l and r of its two pegs
pub record StretchKeeps (c : Verdicts) (ps : List Standing) (fixed : List (Slot FixedLevel)) (i l r : ℕ) : Type 0 where
  pub grade : GradePasses c ps i
  pub apart : Apart ps i l r
  pub kept : (n : ℕ) → FixedKept ps fixed i l r n

-- the lengths of the peg t and the pegs after it keep every rule of these pegs and of the stretches between them
pub record MeetsFrom (c : Verdicts) (ps : List Standing) (fixed : List (Slot FixedLevel)) (t : ℕ) (ls : List ℕ) : Type 0 where
  pub count : length ls ≡ length ps
  pub pegs : (i : ℕ) → t ≤ i → i < length ps → PegKeeps c ps i (len ls i)
  pub stretches : (i : ℕ) → t ≤ i → i + 1 < length ps → StretchKeeps c ps fixed i (len ls i) (len ls (i + 1))

-- lengths, one for each peg in force, that meet every rule
abbrev pub Meets : Verdicts → List Standing → List (Slot FixedLevel) → List ℕ → Type 0
Meets c ps fixed ls = MeetsFrom c ps fixed 0 ls

-- no lengths of the peg t and the pegs after it keep every rule from there on
abbrev pub Closed : Verdicts → List Standing → List (Slot FixedLevel) → ℕ → Type 0
Closed c ps fixed t = (ls : List ℕ) → MeetsFrom c ps fixed t ls → ⊥

-- the last peg that closes the road: with the lengths of any later peg it stays open
pub record LastClosed (c : Verdicts) (ps : List Standing) (fixed : List (Slot FixedLevel)) (t : ℕ) : Type 0 where
  pub there : t < length ps
  pub closed : Closed c ps fixed t
  pub open_after : (u : ℕ) → t < u → u < length ps → Closed c ps fixed u → ⊥
