use Rattle.std.proofs.Common.{◌+◌, length, drop, ap, arith, length-append}
use Rattle.book.specs.Book.{entries, entry_numbers, table_numbers, written}
use Rattle.book.specs.Numbers.{number}
use Rattle.book.proofs.Tables.{entries_skip, entries_take, no_entry, whole_table}
use Rattle.book.proofs.Writes.{first, room, step, stop}
use Rattle.book.proofs.writing.write_table.Goals.{then-slot-gt0, else-slot-gt0}
use Rattle.book.proofs.writing.write_table.Goals as goal

pub write_number-end-requires : goal.write_number-end-requires
write_number-end-requires g c =
    let f = g.T.Held.figures in
    let ss = c.args.slots.now in
    omega (arith, c.requires.room, ap length (whole_table f ss c.args.count c.requires.counted), length-append (number c.args.count) (written (entries f 0 ss)))

pub loop-k-init : goal.loop-k-init
loop-k-init g c =
    let f = g.T.Held.figures in
    let ss = c.args.slots.now in
    first c.args.out.now (written (table_numbers f ss)) c.write_number-end.new.out (number c.args.count) (written (entries f 0 ss)) c.write_number-end.result
    (whole_table f ss c.args.count c.requires.counted) c.requires.room c.write_number-end.ensures.size c.write_number-end.ensures.text

pub write_entry-end-requires : goal.write_entry-end-requires
write_entry-end-requires g c =
    let f = g.T.Held.figures in
    let ss = c.args.slots.now in
    let k = c.loop-k.k in
    let s = c.index-slots-k.result in
    room c.loop-k.invariant (written (entry_numbers f k s)) (written (entries f (k + 1) (drop (k + 1) ss)))
    (entries_take f ss k s c.index-slots-k.is c.loop-k-test.true c.if-slot-gt0.true) (omega arith)

pub loop-k-preserved : goal.loop-k-preserved
loop-k-preserved g c =
    let f = g.T.Held.figures in
    let ss = c.args.slots.now in
    let k = c.loop-k.k in
    let s = c.index-slots-k.result in
    elim c.if-slot-gt0.branch [
      | then-slot-gt0 w ↦ rw (w.out-is, w.end-is)
          (step c.loop-k.invariant (written (entry_numbers f k s)) (written (entries f (k + 1) (drop (k + 1) ss)))
          (entries_take f ss k s c.index-slots-k.is c.loop-k-test.true w.if-slot-gt0.true) (omega arith)
          w.write_entry-end.new.out w.write_entry-end.result w.write_entry-end.ensures.size w.write_entry-end.ensures.text)
      | else-slot-gt0 w ↦ rw (w.out-is, w.end-is)
          (rw (entries_skip f ss k s c.index-slots-k.is c.loop-k-test.true w.if-slot-gt0.false) at c.loop-k.invariant)
    ]

pub returns : goal.returns
returns g c =
    let s = stop c.loop-k.invariant (no_entry g.T.Held.figures c.args.slots.now c.loop-k.k c.loop-k-test.false) in
    record { size = s.0; text = s.1 }
