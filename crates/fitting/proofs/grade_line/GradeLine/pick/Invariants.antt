use Rattle.std.proofs.Common.{ℕ, ◌+◌, ◌<◌}
use Rattle.fitting.specs.Walked.{Leads}
use Rattle.fitting.specs.Rows.{entry}
use Rattle.fitting.proofs.grade_line.GradeLine.pick.Given as goal

abbrev pub invariant-loop-k : goal.invariant-loop-k
invariant-loop-k l = (j : ℕ) → j < l.k → Leads l.self.pegs.now l.self.fixed.now (entry l.store (l.t + 1)) l.t l.left.metres l.goal j → ⊥
