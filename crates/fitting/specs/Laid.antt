-- Lengths laid on a line of pegs: levels and lengths that can be asked for. Assumes nothing.
use Rattle.std.specs.Prelude.{◌≡◌, ℕ, ◌+◌, ◌*◌, ◌<◌, ◌≤◌, List, length, Some, None, Option, ◌≢◌}
use Rattle.fitting.specs.declared.alignment.Standing.{Standing}
use Rattle.fitting.specs.Levels.{AtLeast, AtMost, Nearest, level_at, stretch}
use Rattle.fitting.specs.Line.{OnRoad, gap, number}
use Rattle.fitting.specs.Rules.{OnStretch, len}

-- lengths of neighbours are at most 2,000 and together at most twice the gap
abbrev pub LaidApart : List Standing → List ℕ → Type 0
LaidApart ps ls = (i : ℕ) → i + 1 < length ps → (len ls i ≤ 2000) × (len ls (i + 1) ≤ 2000) × (len ls i + len ls (i + 1) ≤ 2 * gap ps i)

-- y is the exact level at the station s to the nearest millimetre, a half going up; both lie from 0 to 9,000,000
pub record LevelIs (ps : List Standing) (ls : List ℕ) (s y : ℕ) : Type 0 where
  pub place : ℕ
  pub there : place + 1 < length ps
  pub on : OnStretch ps place s
  pub nearest : Nearest (level_at (stretch ps place) (len ls place) (len ls (place + 1)) s) y
  pub not_negative : AtLeast 0 (level_at (stretch ps place) (len ls place) (len ls (place + 1)) s)
  pub not_above : AtMost 9000000 (level_at (stretch ps place) (len ls place) (len ls (place + 1)) s)
  pub most : y ≤ 9000000

-- the level at a station, and none off the road
abbrev pub LevelTold : List Standing → List ℕ → ℕ → Option ℕ → Type 0
LevelTold ps ls s None = OnRoad ps s → ⊥
LevelTold ps ls s (Some y) = OnRoad ps s × LevelIs ps ls s y

-- the length of the peg with this number, and none where no such peg is in force
abbrev pub LengthTold : List Standing → List ℕ → ℕ → Option ℕ → Type 0
LengthTold ps ls p None = (i : ℕ) → i < length ps → number ps i ≢ p
LengthTold ps ls p (Some l) = (i : ℕ) × (i < length ps) × (number ps i ≡ p) × (l ≡ len ls i)
