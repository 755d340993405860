use Rattle.std.proofs.Common.{arith}
use Rattle.book.proofs.Groups.{inside, step, stop}
use Rattle.book.proofs.number.write_number.Goals as goal

pub bounds-out-end : goal.bounds-out-end
bounds-out-end c = inside c.loop-left.invariant (omega arith)

pub loop-left-preserved : goal.loop-left-preserved
loop-left-preserved c = step c.loop-left.invariant (omega arith) c.loop-left-test.true

pub bounds-out-end-2 : goal.bounds-out-end-2
bounds-out-end-2 c = inside c.loop-left.invariant (omega arith)

pub returns : goal.returns
returns c = let s = stop c.loop-left.invariant (omega arith) c.loop-left-test.false in record { size = s.0; text = s.1 }
