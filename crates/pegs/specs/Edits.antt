-- Edits: which are well-formed, and why one is refused for its form. Assumes nothing.
use Rattle.std.specs.Prelude.{ℕ, ◌^◌, ◌<◌, ◌≤◌, Ok, Err, Result}
use Rattle.rules.specs.Refusals.{refusal_number}
use Rattle.rules.specs.declared.refusal.Refusal.TheVariants as figure
use Rattle.pegs.specs.declared.edit.Edit.{Edit}
use Rattle.pegs.specs.declared.edit.Edit.TheVariants.{Place, Lift, Fix, Clear}
use Rattle.pegs.specs.declared.edit.EditRefusal.{EditRefusal}
use Rattle.pegs.specs.declared.edit.EditRefusal.TheVariants.{NumberTooHigh, SequenceZero, StationTooHigh, LevelTooHigh, LowAboveHigh, SequenceLower, SequenceEqual}
use Rattle.pegs.specs.declared.slot.Late.{Late}
use Rattle.pegs.specs.declared.slot.Late.TheVariants.{Lower, Equal}

-- the numbers by which refusals of edits are told; a station and a level have those of any figure
abbrev pub edit_refusal_number : EditRefusal → ℕ
edit_refusal_number NumberTooHigh = 1
edit_refusal_number SequenceZero = 2
edit_refusal_number StationTooHigh = refusal_number figure.StationTooHigh
edit_refusal_number LevelTooHigh = refusal_number figure.LevelTooHigh
edit_refusal_number LowAboveHigh = 5
edit_refusal_number SequenceLower = 20
edit_refusal_number SequenceEqual = 21

abbrev pub of_late : Late → EditRefusal
of_late Lower = SequenceLower
of_late Equal = SequenceEqual

abbrev pub sequence : Edit → ℕ
sequence (Place n s st l) = s
sequence (Lift n s) = s
sequence (Fix n s st l h) = s
sequence (Clear n s) = s

-- pegs are numbered 0 to 39, fixed levels 0 to 15
abbrev pub Numbered : Edit → Type 0
Numbered (Place n s st l) = n ≤ 39
Numbered (Lift n s) = n ≤ 39
Numbered (Fix n s st l h) = n ≤ 15
Numbered (Clear n s) = n ≤ 15

-- sequence numbers go from 1 to 4,294,967,295
abbrev pub InSequence : ℕ → Type 0
InSequence s = (0 < s) × (s < 2 ^ 32)

abbrev pub Sequenced : Edit → Type 0
Sequenced e = InSequence (sequence e)

-- no station is above 10,000 m
abbrev pub StationNear : Edit → Type 0
StationNear (Place n s st l) = st ≤ 10000
StationNear (Lift n s) = Unit {0}
StationNear (Fix n s st l h) = st ≤ 10000
StationNear (Clear n s) = Unit {0}

-- no level or bound is above 9,000,000 mm
abbrev pub LevelsLow : Edit → Type 0
LevelsLow (Place n s st l) = l ≤ 9000000
LevelsLow (Lift n s) = Unit {0}
LevelsLow (Fix n s st l h) = (l ≤ 9000000) × (h ≤ 9000000)
LevelsLow (Clear n s) = Unit {0}

-- a low bound is at most the high one
abbrev pub Ordered : Edit → Type 0
Ordered (Place n s st l) = Unit {0}
Ordered (Lift n s) = Unit {0}
Ordered (Fix n s st l h) = l ≤ h
Ordered (Clear n s) = Unit {0}

-- an edit with nothing against its form
pub record WellFormed (e : Edit) : Type 0 where
  pub numbered : Numbered e
  pub sequenced : Sequenced e
  pub near : StationNear e
  pub low : LevelsLow e
  pub ordered : Ordered e

-- a refusal of an edit's form: its own reason applies, and none that is told before it
abbrev pub FormRefused : Edit → EditRefusal → Type 0
FormRefused e NumberTooHigh = Numbered e → ⊥
FormRefused e SequenceZero = Numbered e × (Sequenced e → ⊥)
FormRefused e StationTooHigh = Numbered e × Sequenced e × (StationNear e → ⊥)
FormRefused e LevelTooHigh = Numbered e × Sequenced e × StationNear e × (LevelsLow e → ⊥)
FormRefused e LowAboveHigh = Numbered e × Sequenced e × StationNear e × LevelsLow e × (Ordered e → ⊥)
FormRefused e SequenceLower = ⊥
FormRefused e SequenceEqual = ⊥

abbrev pub Checked : Edit → Result (Unit {0}) EditRefusal → Type 0
Checked e (Ok u) = WellFormed e
Checked e (Err x) = FormRefused e x

-- the checks in two parts, on plain figures
abbrev pub SlotChecked : (number most sequence : ℕ) → Result (Unit {0}) EditRefusal → Type 0
SlotChecked n most s (Ok u) = (n ≤ most) × InSequence s
SlotChecked n most s (Err NumberTooHigh) = n ≤ most → ⊥
SlotChecked n most s (Err SequenceZero) = (n ≤ most) × (InSequence s → ⊥)
SlotChecked n most s (Err StationTooHigh) = ⊥
SlotChecked n most s (Err LevelTooHigh) = ⊥
SlotChecked n most s (Err LowAboveHigh) = ⊥
SlotChecked n most s (Err SequenceLower) = ⊥
SlotChecked n most s (Err SequenceEqual) = ⊥

abbrev pub FiguresChecked : (station low high : ℕ) → Result (Unit {0}) EditRefusal → Type 0
FiguresChecked st l h (Ok u) = (st ≤ 10000) × (l ≤ 9000000) × (h ≤ 9000000) × (l ≤ h)
FiguresChecked st l h (Err NumberTooHigh) = ⊥
FiguresChecked st l h (Err SequenceZero) = ⊥
FiguresChecked st l h (Err StationTooHigh) = st ≤ 10000 → ⊥
FiguresChecked st l h (Err LevelTooHigh) = (st ≤ 10000) × (l ≤ 9000000 → h ≤ 9000000 → ⊥)
FiguresChecked st l h (Err LowAboveHigh) = (st ≤ 10000) × (l ≤ 9000000) × (h ≤ 9000000) × (l ≤ h → ⊥)
FiguresChecked st l h (Err SequenceLower) = ⊥
FiguresChecked st l h (Err SequenceEqual) = ⊥
