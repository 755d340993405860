use Rattle.std.proofs.Common.{rules, ◌∙◌}
use borrow.Author.Tests.{tests}
use Rattle.std.proofs.lemmas.Iterator.{YieldsList-from_slice}
use Rattle.std.proofs.lemmas.Iterator.Search.{find_from_yields_List}
use Rattle.rules.specs.Tables.{fits}
use Rattle.rules.proofs.table.LengthTable.row_for.Goals as goal

pub returns : goal.returns
returns c =
    let found = find_from_yields_List (fits c.args.turn.bend) _ _ c.find.result c.find.ensures.ran (YieldsList-from_slice c.args.self.now.rows.now cc) (λ x b q k. search (rules, tests)) in
    c.copied.ensures ∙ found
