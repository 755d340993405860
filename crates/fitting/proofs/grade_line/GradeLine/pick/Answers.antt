use Rattle.std.proofs.Common.{◌≡◌, ◌+◌, slice_index, refl, arith, below_more}
use Rattle.std.proofs.lemmas.Bool.{false≢true}
use Rattle.fitting.specs.Walked.{Leads}
use Rattle.fitting.specs.Rows.{entry}
use Rattle.fitting.proofs.grade_line.GradeLine.pick.Goals as goal
use Rattle.fitting.proofs.grade_line.GradeLine.pick.Goals.{else-total-goal-via-else-total-goal, else-total-goal-via-then-total-goal+else-may_join}

pub returns-then-may_join : goal.returns-then-may_join
returns-then-may_join c =
    let here : slice_index c.row-total-items.result.now c.loop-k.k ≡ entry c.args.store.now (c.args.t + 1) c.loop-k.k = c.row-total-items.ensures.entries c.loop-k.k (omega arith) in
    record {
      below = omega arith;
      leads = (c.if-may_join.ensures.0 refl, rw here at c.if-total-goal.true);
      first = c.loop-k.invariant;
    }

pub loop-k-preserved : goal.loop-k-preserved
loop-k-preserved c =
    let here : slice_index c.row-total-items.result.now c.loop-k.k ≡ entry c.args.store.now (c.args.t + 1) c.loop-k.k = c.row-total-items.ensures.entries c.loop-k.k (omega arith) in
    below_more (λ j. Leads c.args.self.now.pegs.now c.args.self.now.fixed.now (entry c.args.store.now (c.args.t + 1)) c.args.t c.args.left.metres c.args.goal j → ⊥) _ c.loop-k.invariant (λ leads.
    elim c.else-total-goal.branch [
      | else-total-goal-via-then-total-goal+else-may_join w ↦ absurd (false≢true (w.if-may_join.ensures.1 leads.0))
      | else-total-goal-via-else-total-goal w ↦ w.if-total-goal.false (rw here leads.1)
    ])
