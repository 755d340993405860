use Rattle.std.proofs.Common.{ℕ, ◌<◌, ◌≤◌, List, length, Option, Some, None, MatchOption, arith, rules}
use borrow.Author.Tests.{tests}
use Rattle.std.proofs.lemmas.Iterator.{first_from_Range}
use Rattle.rules.specs.Tables.{AllLawful, FirstUnlawful, RowLawful}
use Rattle.rules.specs.declared.table.Row.{Row}
use Rattle.rules.proofs.table.first_unlawful.Goals as goal

first : (rows : List Row) (r : Option ℕ)
    → MatchOption r ((k : ℕ) → 0 ≤ k → k < length rows → RowLawful rows k)
    (λ i. (0 ≤ i) × (i < length rows) × (RowLawful rows i → ⊥) × ((k : ℕ) → 0 ≤ k → k < i → RowLawful rows k))
    → MatchOption r (AllLawful rows) (λ i. FirstUnlawful rows i)
first rows None h = λ k l. h k (omega arith) l
first rows (Some i) h = record { within = h.1; earlier = λ k l. h.3 k (omega arith) l; here = h.2 }

pub returns : goal.returns
returns c =
    let rows = c.args.rows.now in
    first rows c.find.result
    (first_from_Range _ _ _ c.find.result (λ i. RowLawful rows i → ⊥) (RowLawful rows) c.find.ensures.ran
    (λ x q k. search (rules, tests)) (λ x q k. search (rules, tests)))
