use Rattle.std.proofs.Common.{drop}
use Rattle.book.specs.Book.{written}
use Rattle.book.proofs.Writes.{Leads}
use Rattle.book.proofs.number.write_numbers.Given as goal

abbrev pub invariant-loop-n : goal.invariant-loop-n
invariant-loop-n l = Leads l.initial.out (written l.numbers) l.out l.end (written (drop l.n-index l.numbers))
