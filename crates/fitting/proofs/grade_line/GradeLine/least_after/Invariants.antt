use Rattle.std.proofs.Common.{slice_index}
use Rattle.fitting.specs.Walked.{LeastJoined}
use Rattle.fitting.proofs.grade_line.GradeLine.least_after.Given as goal

abbrev pub invariant-loop-j : goal.invariant-loop-j
invariant-loop-j l = LeastJoined l.self.pegs.now l.self.fixed.now (slice_index l.next) l.t l.left.metres l.j l.low
