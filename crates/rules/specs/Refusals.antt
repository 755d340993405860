-- The numbers by which refusals are told. Assumes nothing.
use Rattle.std.specs.Prelude.{ℕ}
use Rattle.rules.specs.declared.refusal.Refusal.{Refusal}
use Rattle.rules.specs.declared.refusal.Refusal.TheVariants.{StationTooHigh, LevelTooHigh, UnknownRoadFigure, OvertakingTooSlow, UnlawfulTable, LengthOutOfStep, StationsNotRising}

abbrev pub refusal_number : Refusal → ℕ
refusal_number StationTooHigh = 3
refusal_number LevelTooHigh = 4
refusal_number UnknownRoadFigure = 6
refusal_number OvertakingTooSlow = 7
refusal_number (UnlawfulTable fault) = 8
refusal_number LengthOutOfStep = 9
refusal_number StationsNotRising = 23
