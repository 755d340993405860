use Rattle.std.proofs.Common.{◌+◌, slice_index, sym, refl, subst}
use Rattle.std.proofs.lemmas.Bool.{false≢true}
use Rattle.fitting.specs.Walked.{LeastJoined}
use Rattle.fitting.proofs.LowSoFar.{low_falls, low_stays}
use Rattle.fitting.proofs.grade_line.GradeLine.least_after.Goals as goal
use Rattle.fitting.proofs.grade_line.GradeLine.least_after.Goals.{else-total-low, else-total-low-via-else-total-low, else-total-low-via-then-total-low+else-may_join, then-total-low+then-may_join}

pub loop-j-preserved : goal.loop-j-preserved
loop-j-preserved c =
    let L = LeastJoined c.args.self.now.pegs.now c.args.self.now.fixed.now (slice_index c.args.next.now) c.args.t c.args.left.metres (c.loop-j.j + 1) in
    elim c.if-total-low.branch [
      | then-total-low+then-may_join w ↦
          subst L (sym w.low-is) (low_falls _ _ _ _ _ _ _ c.loop-j.invariant w.if-total-low.true (w.if-may_join.ensures.0 refl))
      | else-total-low w ↦
          subst L (sym w.low-is) (low_stays _ _ _ _ _ _ _ c.loop-j.invariant (λ joins.
          elim w.else-total-low.branch [
            | else-total-low-via-then-total-low+else-may_join n ↦ absurd (false≢true (n.if-may_join.ensures.1 joins))
            | else-total-low-via-else-total-low n ↦ n.if-total-low.false
          ]))
    ]
