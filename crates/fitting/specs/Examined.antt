-- What an examination of lengths tells: the first rule that they break. Assumes nothing.
use Rattle.std.specs.Prelude.{◌≡◌, ℕ, ◌+◌, ◌-◌, ◌%◌, ◌<◌, ◌≤◌, List, length}
use Rattle.rules.specs.Refusals.{refusal_number}
use Rattle.rules.specs.declared.refusal.Refusal.TheVariants as figure
use Rattle.pegs.specs.declared.peg.FixedLevel.{FixedLevel}
use Rattle.pegs.specs.declared.slot.Slot.{Slot}
use Rattle.fitting.specs.declared.alignment.Standing.{Standing}
use Rattle.fitting.specs.declared.examine.Broken.{Broken}
use Rattle.fitting.specs.declared.examine.Broken.TheVariants.{Lengths, Curve, Grade, Overlap, FixedLevelLost}
use Rattle.fitting.specs.Line.{climb, gap, number, turn}
use Rattle.fitting.specs.Rules.{Apart, FixedKept, GradePasses, PegKeeps, StretchKeeps, Verdicts, len}

-- a list of lengths for n pegs: one for each, multiples of 5 from 0 to 2,000, and 0 at both ends
pub record LengthsFor (n : ℕ) (ls : List ℕ) : Type 0 where
  pub count : length ls ≡ n
  pub each : (i : ℕ) → i < n → (len ls i % 5 ≡ 0) × (len ls i ≤ 2000)
  pub first : len ls 0 ≡ 0
  pub last : len ls (n - 1) ≡ 0

-- the walk from the first peg came to the i-th with no rule broken
pub record WalkedTo (c : Verdicts) (ps : List Standing) (fixed : List (Slot FixedLevel)) (ls : List ℕ) (i : ℕ) : Type 0 where
  pub pegs : (j : ℕ) → j < i → PegKeeps c ps j (len ls j)
  pub stretches : (j : ℕ) → j < i → StretchKeeps c ps fixed j (len ls j) (len ls (j + 1))

-- the code refuses the i-th peg's curve
pub record CurveRefused (c : Verdicts) (ps : List Standing) (l i clause : ℕ) : Type 0 where
  pub turns : (0 < i) × (i + 1 < length ps)
  pub told : clause ≡ c.curve (turn ps i) l
  pub refused : clause ≡ 0 → ⊥

-- the code refuses the grade from the i-th peg to the next
pub record GradeRefused (c : Verdicts) (ps : List Standing) (i clause : ℕ) : Type 0 where
  pub there : i + 1 < length ps
  pub told : clause ≡ c.grade (climb ps i) (gap ps i)
  pub refused : clause ≡ 0 → ⊥

-- of the fixed levels on the i-th stretch, the n-th is the first that isn't kept
pub record LevelLost (ps : List Standing) (fixed : List (Slot FixedLevel)) (i l r n : ℕ) : Type 0 where
  pub lost : FixedKept ps fixed i l r n → ⊥
  pub first : (m : ℕ) → m < n → FixedKept ps fixed i l r m

-- what is broken at the i-th peg and on the stretch after it, tested in this order: curve, grade, overlap, fixed levels
abbrev pub BrokenAt : Verdicts → List Standing → List (Slot FixedLevel) → List ℕ → ℕ → Broken → Type 0
BrokenAt c ps fixed ls i Lengths = ⊥
BrokenAt c ps fixed ls i (Curve p clause) = (p ≡ number ps i) × CurveRefused c ps (len ls i) i clause
BrokenAt c ps fixed ls i (Grade p clause) = (p ≡ number ps i) × PegKeeps c ps i (len ls i) × GradeRefused c ps i clause
BrokenAt c ps fixed ls i (Overlap p) =
    (p ≡ number ps i) × (i + 1 < length ps) × PegKeeps c ps i (len ls i) × GradePasses c ps i × (Apart ps i (len ls i) (len ls (i + 1)) → ⊥)
BrokenAt c ps fixed ls i (FixedLevelLost n) =
    (i + 1 < length ps) × PegKeeps c ps i (len ls i) × GradePasses c ps i × Apart ps i (len ls i) (len ls (i + 1)) × LevelLost ps fixed i (len ls i) (len ls (i + 1)) n

-- the first rule broken on the walk
abbrev pub FirstBroken : Verdicts → List Standing → List (Slot FixedLevel) → List ℕ → Broken → Type 0
FirstBroken c ps fixed ls b = (i : ℕ) × WalkedTo c ps fixed ls i × BrokenAt c ps fixed ls i b

-- why lengths are refused: they are no list for these pegs, or else the first rule broken
abbrev pub ExaminedTo : Verdicts → List Standing → List (Slot FixedLevel) → List ℕ → Broken → Type 0
ExaminedTo c ps fixed ls Lengths = LengthsFor (length ps) ls → ⊥
ExaminedTo c ps fixed ls (Curve p clause) = LengthsFor (length ps) ls × FirstBroken c ps fixed ls (Curve p clause)
ExaminedTo c ps fixed ls (Grade p clause) = LengthsFor (length ps) ls × FirstBroken c ps fixed ls (Grade p clause)
ExaminedTo c ps fixed ls (Overlap p) = LengthsFor (length ps) ls × FirstBroken c ps fixed ls (Overlap p)
ExaminedTo c ps fixed ls (FixedLevelLost n) = LengthsFor (length ps) ls × FirstBroken c ps fixed ls (FixedLevelLost n)

-- the numbers by which these refusals are told
abbrev pub broken_number : Broken → ℕ
broken_number Lengths = refusal_number figure.LengthOutOfStep
broken_number (Curve p clause) = 33
broken_number (Grade p clause) = 27
broken_number (Overlap p) = 34
broken_number (FixedLevelLost n) = 35
