use Rattle.std.proofs.Common.{ℕ, ◌+◌, ◌<◌}
use Rattle.fitting.specs.Fits.{NeverPasses}
use Rattle.fitting.specs.Rules.{verdicts}
use Rattle.fitting.proofs.judge.Judge.check_turns.Given as goal

abbrev pub invariant-loop-i : goal.invariant-loop-i
invariant-loop-i g l = (j : ℕ) → j < l.i + 1 → NeverPasses (verdicts g.C.RoadCode l.self.code.now) l.self.line.pegs.now j → ⊥
