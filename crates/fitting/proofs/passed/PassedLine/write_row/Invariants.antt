use Rattle.std.proofs.Common.{ℕ, ◌<◌, slice_index}
use Rattle.fitting.specs.Rows.{LeastFrom}
use Rattle.fitting.specs.Rules.{verdicts}
use Rattle.fitting.proofs.passed.PassedLine.write_row.Given as goal

abbrev pub invariant-loop-k : goal.invariant-loop-k
invariant-loop-k g l = (j : ℕ) → j < l.k → LeastFrom (verdicts g.C.RoadCode l.self.code.now) l.self.line.pegs.now l.self.line.fixed.now l.t j (slice_index l.row j)
