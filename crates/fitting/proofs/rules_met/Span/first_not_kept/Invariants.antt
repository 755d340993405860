use Rattle.std.proofs.Common.{ℕ, ◌<◌}
use Rattle.fitting.specs.Rules.{FixedKept}
use Rattle.fitting.proofs.rules_met.Span.first_not_kept.Given as goal

abbrev pub invariant-loop-n : goal.invariant-loop-n
invariant-loop-n l = (m : ℕ) → m < l.n → FixedKept l.self.line.pegs.now l.self.line.fixed.now l.self.at l.self.left.metres l.self.right.metres m
