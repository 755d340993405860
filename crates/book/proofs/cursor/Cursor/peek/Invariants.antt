use Rattle.book.proofs.Groups.{Begun}
use Rattle.book.proofs.cursor.Cursor.peek.Given as goal

abbrev pub invariant-loop-k : goal.invariant-loop-k
invariant-loop-k l = Begun l.self.bytes.now l.self.at l.k l.value l.scale
