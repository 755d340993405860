use Rattle.book.proofs.Exact.{exactly}
use Rattle.book.proofs.number.read_at.Goals as goal

pub returns-clause-exact : goal.returns-clause-exact
returns-clause-exact c = exactly c.args.bytes.now c.args.at c.peek.result c.peek.ensures
