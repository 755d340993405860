use Rattle.std.proofs.Common.{below_more}
use Rattle.fitting.proofs.judge.Judge.check_all.Goals as goal

pub loop-i-preserved : goal.loop-i-preserved
loop-i-preserved g c = below_more _ _ c.loop-i.invariant c.in_ok-check_at.ensures
