use Rattle.book.proofs.Tables.{Counting}
use Rattle.book.proofs.writing.tally_table.Given as goal

abbrev pub invariant-loop-k : goal.invariant-loop-k
invariant-loop-k g l = Counting g.T.Held.figures l.slots l.k l.count l.size
