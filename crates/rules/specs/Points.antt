-- Points of a grade line: when they are accepted, and why they are refused. Assumes nothing.
use Rattle.std.specs.List.{AllAdjacentBelow}
use Rattle.std.specs.Prelude.{ℕ, ◌+◌, ◌-◌, ◌≤◌, List, All, length, ℤ, pos, ◌-ℤ◌}
use Rattle.rules.specs.declared.point.Point.{Point}
use Rattle.rules.specs.declared.refusal.Refusal.{Refusal}
use Rattle.rules.specs.declared.refusal.Refusal.TheVariants.{StationTooHigh, LevelTooHigh, UnknownRoadFigure, OvertakingTooSlow, UnlawfulTable, LengthOutOfStep, StationsNotRising}

-- no station is above 10,000 m
abbrev pub StationsNear : List Point → Type 0
StationsNear ps = All (λ p. p.station ≤ 10000) ps

-- no level is above 9,000,000 mm
abbrev pub LevelsLow : List Point → Type 0
LevelsLow ps = All (λ p. p.level ≤ 9000000) ps

-- from each point to the next the station rises by at least 10 m
abbrev pub Rising : List Point → Type 0
Rising ps = AllAdjacentBelow (λ p q. p.station + 10 ≤ q.station) ps (length ps)

-- a refusal of points: its own reason applies, and none that is told before it
abbrev pub PointsRefused : List Point → Refusal → Type 0
PointsRefused ps StationTooHigh = StationsNear ps → ⊥
PointsRefused ps LevelTooHigh = StationsNear ps × (LevelsLow ps → ⊥)
PointsRefused ps StationsNotRising = StationsNear ps × LevelsLow ps × (Rising ps → ⊥)
PointsRefused ps UnknownRoadFigure = ⊥
PointsRefused ps OvertakingTooSlow = ⊥
PointsRefused ps (UnlawfulTable fault) = ⊥
PointsRefused ps LengthOutOfStep = ⊥

-- points to which no refusal applies
abbrev pub PointsSound : List Point → Type 0
PointsSound ps = StationsNear ps × LevelsLow ps × Rising ps

-- metres from one point to the next
abbrev pub run : Point → Point → ℕ
run p q = q.station - p.station

-- millimetres up from one point to the next, below zero where it falls
abbrev pub rise : Point → Point → ℤ
rise p q = pos q.level -ℤ pos p.level
