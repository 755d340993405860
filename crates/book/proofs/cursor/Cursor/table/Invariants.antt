use Rattle.book.proofs.Slots.{Sofar}
use Rattle.book.proofs.cursor.Cursor.table.Given as goal

abbrev pub invariant-loop : goal.invariant-loop
invariant-loop g l = Sofar g.T.Held.TABLE g.T.Held.figures g.T.Held.Good l.fn.self l.self l.count l.counter l.lowest l.slots
