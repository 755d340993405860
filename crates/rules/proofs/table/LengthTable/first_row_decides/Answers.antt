use Rattle.std.proofs.Common.{ap}
use Rattle.rules.specs.Tables.{verdict_of}
use Rattle.rules.proofs.FirstRow.{decided, undecided}
use Rattle.rules.proofs.table.LengthTable.first_row_decides.Goals as goal

pub returns : goal.returns
returns c =
    let rows = c.args.self.now.rows.now in
    record {
      first = λ t l i h here earlier. ap (λ o. verdict_of o l) (decided t rows i h here earlier);
      none = λ t l away. ap (λ o. verdict_of o l) (undecided t rows away);
    }
