-- The line of pegs in force: its points, gaps, rises and turns. Assumes nothing.
use Rattle.std.specs.Prelude.{ℕ, ◌+◌, ◌-◌, ◌<◌, ◌≤◌, List, length, ℤ, slice_index_or}
use Rattle.rules.specs.Points.{rise, run}
use Rattle.rules.specs.Turns.{bend_of}
use Rattle.rules.specs.declared.point.Point.{Point}
use Rattle.rules.specs.declared.turn.Bend.{Bend}
use Rattle.fitting.specs.declared.alignment.Standing.{Standing}

-- stands where there is no peg
abbrev pub nobody : Standing
nobody = record { number = 0; point = record { station = 0; level = 0 } }

-- the number of the i-th peg, counted from 0
abbrev pub number : List Standing → ℕ → ℕ
number ps i = (slice_index_or ps i nobody).number

-- where the i-th peg stands
abbrev pub point : List Standing → ℕ → Point
point ps i = (slice_index_or ps i nobody).point

abbrev pub station : List Standing → ℕ → ℕ
station ps i = (point ps i).station

-- metres from the i-th peg to the next
abbrev pub gap : List Standing → ℕ → ℕ
gap ps i = run (point ps i) (point ps (i + 1))

-- millimetres up from the i-th peg to the next, below zero where it falls
abbrev pub climb : List Standing → ℕ → ℤ
climb ps i = rise (point ps i) (point ps (i + 1))

-- the turn at the i-th peg, between its neighbours
abbrev pub turn : List Standing → ℕ → Bend
turn ps i = bend_of (point ps (i - 1)) (point ps i) (point ps (i + 1))

-- from each peg to the next the station rises by at least 10 m
abbrev pub Rising : List Standing → Type 0
Rising ps = (i : ℕ) → i + 1 < length ps → station ps i + 10 ≤ station ps (i + 1)

-- stations are at most 10,000 m, levels at most 9,000,000 mm
abbrev pub FiguresFine : List Standing → Type 0
FiguresFine ps = (i : ℕ) → i < length ps → (station ps i ≤ 10000) × ((point ps i).level ≤ 9000000)

-- the station lies from the first peg's to the last peg's
abbrev pub OnRoad : List Standing → ℕ → Type 0
OnRoad ps s = (station ps 0 ≤ s) × (s ≤ station ps (length ps - 1))
