-- In a length table the first row that reaches a turn decides. Assumes nothing.
use Rattle.std.proofs.Common.{◌≡◌, ℕ, ◌<◌, true, false, List, Some, None, find, length, refl, rules}
use borrow.Author.Tests.{tests}
use Rattle.std.proofs.lemmas.List.Recursion.{found_at, found_nowhere}
use Rattle.rules.specs.Tables.{Reaches, fits, no_row, row_at}
use Rattle.rules.specs.declared.table.Row.{Row}
use Rattle.rules.specs.declared.turn.Bend.{Bend}

module _ (t : Bend) where
  reaching : (row : Row) → Reaches row t → fits t row ≡ true
  reaching row r = search (rules, tests)

  away_from : (row : Row) → (Reaches row t → ⊥) → fits t row ≡ false
  away_from row far = search (rules, tests)

  pub undecided : (rows : List Row) → ((j : ℕ) → j < length rows → Reaches (row_at rows j) t → ⊥) → find (fits t) rows ≡ None
  undecided rows away = found_nowhere (find (fits t)) (fits t) Some None refl (λ _ _. refl) rows no_row (λ j h. away_from (row_at rows j) (away j h))

  pub decided : (rows : List Row) (i : ℕ) → i < length rows → Reaches (row_at rows i) t → ((j : ℕ) → j < i → Reaches (row_at rows j) t → ⊥)
      → find (fits t) rows ≡ Some (row_at rows i)
  decided rows i h here earlier =
      found_at (find (fits t)) (fits t) Some None refl (λ _ _. refl) rows i no_row h (λ j g. away_from (row_at rows j) (earlier j g)) (reaching (row_at rows i) here)
