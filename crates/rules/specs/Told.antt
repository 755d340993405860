-- How a code tells a verdict. Assumes nothing.
use Rattle.std.specs.Prelude.{◌≡◌, ℕ, Result, MatchResult, ⊤}
use Rattle.rules.specs.declared.clause.ClauseNumber.{ClauseNumber}

-- passed exactly at verdict 0, else refused by the clause of that number
abbrev pub Told : ℕ → Result ⊤ ClauseNumber → Type 0
Told verdict r = MatchResult r (λ _. verdict ≡ 0) (λ c. c.number ≡ verdict)
