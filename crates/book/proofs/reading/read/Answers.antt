use Rattle.book.proofs.Once.{exact, told}
use Rattle.book.proofs.reading.read.Goals as goal

pub returns : goal.returns
returns c =
    let bs = c.args.bytes.now in
    let r = c.read_tables.result in
    let h = c.read_tables.ensures in
    record { reads = h; exact = exact bs r h; told = told bs r h }
