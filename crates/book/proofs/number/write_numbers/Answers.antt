use Rattle.std.proofs.Common.{◌+◌, get_or, drop, arith}
use Rattle.book.specs.Book.{written}
use Rattle.book.specs.Numbers.{number}
use Rattle.book.proofs.Writes.{next_number, no_number, room, step, stop}
use Rattle.book.proofs.number.write_numbers.Goals as goal

pub write_number-end-requires : goal.write_number-end-requires
write_number-end-requires c =
    let ns = c.args.numbers.now in
    let k = c.loop-n.n-index in
    room c.loop-n.invariant (number (get_or ns k 0)) (written (drop (k + 1) ns)) (next_number ns k (omega arith)) (omega arith)

pub loop-n-preserved : goal.loop-n-preserved
loop-n-preserved c =
    let ns = c.args.numbers.now in
    let k = c.loop-n.n-index in
    step c.loop-n.invariant (number (get_or ns k 0)) (written (drop (k + 1) ns)) (next_number ns k (omega arith)) (omega arith)
    c.write_number-end.new.out c.write_number-end.result c.write_number-end.ensures.size c.write_number-end.ensures.text

pub returns : goal.returns
returns c =
    let s = stop c.loop-n.invariant (no_number c.args.numbers.now c.loop-n.n-index (omega arith)) in
    record { size = s.0; text = s.1 }
