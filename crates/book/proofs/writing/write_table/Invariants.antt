use Rattle.std.proofs.Common.{drop}
use Rattle.book.specs.Book.{entries, table_numbers, written}
use Rattle.book.proofs.Writes.{Leads}
use Rattle.book.proofs.writing.write_table.Given as goal

abbrev pub invariant-loop-k : goal.invariant-loop-k
invariant-loop-k g l = Leads l.fn.out (written (table_numbers g.T.Held.figures l.slots)) l.out l.end (written (entries g.T.Held.figures l.k (drop l.k l.slots)))
