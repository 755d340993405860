-- Length tables: which are lawful, and their verdicts, over any rows. Assumes nothing.
use Rattle.std.specs.Prelude.{◌≡◌, ℕ, ◌*◌, ◌<◌, ◌≤◌, min, Bool, cond, ◌&&◌, List, find, length, Option, None, Some, ℤ, ◌==◌, nat_le, nat_lt, slice_index_or, unsigned_abs}
use Rattle.rules.specs.declared.refusal.Refusal.{Refusal}
use Rattle.rules.specs.declared.refusal.Refusal.TheVariants.{StationTooHigh, LevelTooHigh, UnknownRoadFigure, OvertakingTooSlow, UnlawfulTable, LengthOutOfStep, StationsNotRising}
use Rattle.rules.specs.declared.refusal.TableFault.{TableFault}
use Rattle.rules.specs.declared.refusal.TableFault.TheVariants as fault
use Rattle.rules.specs.declared.table.Row.{Row}
use Rattle.rules.specs.declared.turn.Bend.{Bend}
use Rattle.rules.specs.Turns.{base, change, kind, kind_number}

-- the clause where no row reaches a turn's change of grade
abbrev pub no_row_clause : ℕ
no_row_clause = 255

-- a row is of the turn's kind, and its bound reaches the turn's change of grade
abbrev pub fits : Bend → Row → Bool
fits t row = row.kind == kind_number (kind t) && nat_le (change t) (row.change * base t)

-- what the row that decides says of a length; a clause that a code can't tell, which no lawful table has, is told as 255
abbrev pub row_verdict : Row → ℕ → ℕ
row_verdict row l = cond (nat_lt l row.least) (min row.clause 255) 0

-- what a table says of a length where this row decides, or none does
abbrev pub verdict_of : Option Row → ℕ → ℕ
verdict_of None l = no_row_clause
verdict_of (Some row) l = row_verdict row l

-- the verdict on a curve: the first row that fits decides
abbrev pub table_curve : List Row → Bend → ℕ → ℕ
table_curve rows t l = verdict_of (find (fits t) rows) l

-- the verdict on a grade
abbrev pub table_grade : (bound clause : ℕ) → ℤ → ℕ → ℕ
table_grade bound clause rise run = cond (nat_lt (bound * run) (unsigned_abs rise)) clause 0

abbrev pub no_row : Row
no_row = record { kind = 0; change = 0; least = 0; clause = 0 }

abbrev pub row_at : List Row → ℕ → Row
row_at rows i = slice_index_or rows i no_row

-- a row's figures are in range
pub record RowInRange (row : Row) : Type 0 where
  pub kind : row.kind ≤ 1
  pub change : row.change ≤ 2000
  pub least : row.least ≤ 2000
  pub clause_low : 1 ≤ row.clause
  pub clause_high : row.clause ≤ 254

-- the bound of the row at i is above that of each row of its kind before it
abbrev pub AboveEarlier : List Row → ℕ → Type 0
AboveEarlier rows i = (j : ℕ) → j < i → (row_at rows j).kind ≡ (row_at rows i).kind → (row_at rows j).change < (row_at rows i).change

abbrev pub RowLawful : List Row → ℕ → Type 0
RowLawful rows i = RowInRange (row_at rows i) × AboveEarlier rows i

abbrev pub AllLawful : List Row → Type 0
AllLawful rows = (i : ℕ) → i < length rows → RowLawful rows i

-- the row at i is against the rules, and none before it is
pub record FirstUnlawful (rows : List Row) (i : ℕ) : Type 0 where
  pub within : i < length rows
  pub earlier : (j : ℕ) → j < i → RowLawful rows j
  pub here : RowLawful rows i → ⊥

abbrev pub RowCount : List Row → Type 0
RowCount rows = (1 ≤ length rows) × (length rows ≤ 64)

abbrev pub GradientLawful : (bound clause : ℕ) → Type 0
GradientLawful bound clause = (bound ≤ 2000) × (1 ≤ clause) × (clause ≤ 254)

-- a table that may be used
pub record Lawful (rows : List Row) (bound clause : ℕ) : Type 0 where
  pub count : RowCount rows
  pub rows_lawful : AllLawful rows
  pub gradient : GradientLawful bound clause

-- what is told against a table, and nothing that would be told before it
abbrev pub Fault : List Row → (bound clause : ℕ) → TableFault → Type 0
Fault rows bound clause fault.RowCount = RowCount rows → ⊥
Fault rows bound clause (fault.Row i) = RowCount rows × FirstUnlawful rows i
Fault rows bound clause fault.Gradient = RowCount rows × AllLawful rows × (GradientLawful bound clause → ⊥)

abbrev pub TableRefused : List Row → (bound clause : ℕ) → Refusal → Type 0
TableRefused rows bound clause (UnlawfulTable f) = Fault rows bound clause f
TableRefused rows bound clause StationTooHigh = ⊥
TableRefused rows bound clause LevelTooHigh = ⊥
TableRefused rows bound clause UnknownRoadFigure = ⊥
TableRefused rows bound clause OvertakingTooSlow = ⊥
TableRefused rows bound clause LengthOutOfStep = ⊥
TableRefused rows bound clause StationsNotRising = ⊥

-- the row at i is for the turn, as the table's rule says it
pub record Reaches (row : Row) (t : Bend) : Type 0 where
  pub kind : row.kind ≡ kind_number (kind t)
  pub change : change t ≤ row.change * base t

-- the first row that reaches a turn decides its curve, and where none does the clause is 255
pub record FirstRowDecides (rows : List Row) : Type 0 where
  pub first : (t : Bend) (l i : ℕ) → i < length rows → Reaches (row_at rows i) t → ((j : ℕ) → j < i → Reaches (row_at rows j) t → ⊥)
      → table_curve rows t l ≡ row_verdict (row_at rows i) l
  pub none : (t : Bend) (l : ℕ) → ((j : ℕ) → j < length rows → Reaches (row_at rows j) t → ⊥) → table_curve rows t l ≡ no_row_clause
