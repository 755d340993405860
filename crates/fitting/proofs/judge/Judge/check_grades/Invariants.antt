use Rattle.std.proofs.Common.{ℕ, ◌<◌}
use Rattle.fitting.specs.Rules.{GradePasses, verdicts}
use Rattle.fitting.proofs.judge.Judge.check_grades.Given as goal

abbrev pub invariant-loop-i : goal.invariant-loop-i
invariant-loop-i g l = (j : ℕ) → j < l.i → GradePasses (verdicts g.C.RoadCode l.self.code.now) l.self.line.pegs.now j
