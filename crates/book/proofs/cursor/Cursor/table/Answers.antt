use Rattle.std.proofs.lemmas.Result.{err_from_is_err_and}
use Rattle.book.proofs.Slots.{begin, enter, in_entry}
use Rattle.book.proofs.cursor.Cursor.table.Goals as goal

pub loop-init : goal.loop-init
loop-init g c =
    let i = rw c.TABLE.ensures at c.in_ok-count.ensures in
    rw c.requires (begin g.T.Held.TABLE g.T.Held.figures g.T.Held.Good i)

pub returns-in_err-entry : goal.returns-in_err-entry
returns-in_err-entry g c =
    let p = err_from_is_err_and c.from_residual-in_err-entry.result c.from_residual-in_err-entry.ensures.1 in
    rw (p.1, p.2) (in_entry c.loop.invariant c.loop-test.true c.in_err-entry.field-0.0 c.in_err-entry.ensures)

pub loop-preserved : goal.loop-preserved
loop-preserved g c = enter c.loop.invariant g.met.T.Held.fair c.in_ok-entry.ensures c.loop-test.true
