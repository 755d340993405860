-- What a fitting answers, and what it leaves in the working store. Assumes nothing.
use Rattle.std.specs.Prelude.{◌≡◌, ℕ, ◌+◌, ◌*◌, ◌<◌, ◌≤◌, List, length, replicate, Ok, Err, Result}
use Rattle.pegs.specs.declared.peg.FixedLevel.{FixedLevel}
use Rattle.pegs.specs.declared.slot.Slot.{Slot}
use Rattle.rules.specs.Shortest.{NonePasses}
use Rattle.fitting.specs.declared.alignment.Standing.{Standing}
use Rattle.fitting.specs.declared.fit.NoFit.{NoFit}
use Rattle.fitting.specs.declared.fit.NoFit.TheVariants.{StoreTooSmall, Grade, Turn, Closed}
use Rattle.fitting.specs.declared.examine.Broken.TheVariants as broken
use Rattle.fitting.specs.Examined.{GradeRefused, broken_number}
use Rattle.fitting.specs.Line.{number, turn}
use Rattle.fitting.specs.Rules.{GradePasses, GradesPass, LastClosed, Verdicts}

-- the working store has 401 words for each peg
abbrev pub Roomy : List Standing → ℕ → Type 0
Roomy ps words = 401 * length ps ≤ words

-- the first grade that the code refuses
pub record FirstGrade (c : Verdicts) (ps : List Standing) (i clause : ℕ) : Type 0 where
  pub refused : GradeRefused c ps i clause
  pub first : (j : ℕ) → j < i → GradePasses c ps j

-- the i-th peg is a turn that the code refuses at all 401 lengths
pub record NeverPasses (c : Verdicts) (ps : List Standing) (i : ℕ) : Type 0 where
  pub turns : (0 < i) × (i + 1 < length ps)
  pub refused : NonePasses (c.curve (turn ps i))

-- every turn has a length that the code passes
abbrev pub TurnsPass : Verdicts → List Standing → Type 0
TurnsPass c ps = (i : ℕ) → NeverPasses c ps i → ⊥

-- the first turn that the code refuses at every length, and its clause at 2,000
pub record FirstTurn (c : Verdicts) (ps : List Standing) (i clause : ℕ) : Type 0 where
  pub never : NeverPasses c ps i
  pub told : clause ≡ c.curve (turn ps i) 2000
  pub first : (j : ℕ) → j < i → NeverPasses c ps j → ⊥

-- the two reasons of the code alone, told by the peg's number
abbrev pub GradeTold : Verdicts → List Standing → NoFit → Type 0
GradeTold c ps StoreTooSmall = ⊥
GradeTold c ps (Grade p clause) = (i : ℕ) × (p ≡ number ps i) × FirstGrade c ps i clause
GradeTold c ps (Turn p clause) = ⊥
GradeTold c ps (Closed p) = ⊥

abbrev pub TurnTold : Verdicts → List Standing → NoFit → Type 0
TurnTold c ps StoreTooSmall = ⊥
TurnTold c ps (Grade p clause) = ⊥
TurnTold c ps (Turn p clause) = (i : ℕ) × (p ≡ number ps i) × FirstTurn c ps i clause
TurnTold c ps (Closed p) = ⊥

-- why there is no fit: the reason applies, and none that is told before it
abbrev pub IsNoFit : Verdicts → List Standing → List (Slot FixedLevel) → ℕ → NoFit → Type 0
IsNoFit c ps fixed words StoreTooSmall = Roomy ps words → ⊥
IsNoFit c ps fixed words (Grade p clause) = Roomy ps words × GradeTold c ps (Grade p clause)
IsNoFit c ps fixed words (Turn p clause) = Roomy ps words × GradesPass c ps × TurnTold c ps (Turn p clause)
IsNoFit c ps fixed words (Closed p) = Roomy ps words × GradesPass c ps × TurnsPass c ps × ((t : ℕ) × (p ≡ number ps t) × LastClosed c ps fixed t)

-- a store that is too small is left as it was; any other is left all zero
abbrev pub StoreLeft : {F : Type 0} → List ℕ → List ℕ → Result F NoFit → Type 0
StoreLeft before after (Ok f) = after ≡ replicate (length before) 0
StoreLeft before after (Err StoreTooSmall) = after ≡ before
StoreLeft before after (Err (Grade p clause)) = after ≡ replicate (length before) 0
StoreLeft before after (Err (Turn p clause)) = after ≡ replicate (length before) 0
StoreLeft before after (Err (Closed p)) = after ≡ replicate (length before) 0

-- the numbers by which these refusals are told
abbrev pub no_fit_number : NoFit → ℕ
no_fit_number StoreTooSmall = 25
no_fit_number (Grade p clause) = broken_number (broken.Grade p clause)
no_fit_number (Turn p clause) = 28
no_fit_number (Closed p) = 29
