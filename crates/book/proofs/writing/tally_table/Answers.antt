use Rattle.std.proofs.Common.{arith}
use Rattle.book.proofs.Tables.{count_skip, count_stop, count_take}
use Rattle.book.proofs.writing.tally_table.Goals.{then-slot-gt0, else-slot-gt0}
use Rattle.book.proofs.writing.tally_table.Goals as goal

pub loop-k-preserved : goal.loop-k-preserved
loop-k-preserved g c =
    let f = g.T.Held.figures in
    let ss = c.args.slots.now in
    elim c.if-slot-gt0.branch [
      | then-slot-gt0 w ↦ rw (w.count-is, w.size-is, w.entry_size-size.ensures.is)
          (count_take f ss c.loop-k.k c.index-slots-k.result c.index-slots-k.is c.loop-k-test.true c.loop-k.count c.loop-k.size c.loop-k.invariant w.if-slot-gt0.true
          (omega (arith, w.entry_size-size.ensures.is, w.entry_size-size.ensures.few)))
      | else-slot-gt0 w ↦ rw (w.count-is, w.size-is)
          (count_skip f ss c.loop-k.k c.index-slots-k.result c.index-slots-k.is c.loop-k-test.true c.loop-k.count c.loop-k.size c.loop-k.invariant w.if-slot-gt0.false)
    ]

pub returns : goal.returns
returns g c =
    count_stop g.T.Held.figures c.args.slots.now c.loop-k.k c.loop-k.count c.loop-k.size c.loop-k.invariant c.requires (omega arith) c.number_size.result c.number_size.ensures.is
    c.number_size.ensures.few
