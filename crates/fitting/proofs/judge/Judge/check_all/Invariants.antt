use Rattle.std.proofs.Common.{ℕ, ◌+◌, ◌<◌, length}
use Rattle.fitting.specs.Rules.{PegKeeps, StretchKeeps, len, verdicts}
use Rattle.fitting.proofs.judge.Judge.check_all.Given as goal

abbrev pub invariant-loop-i : goal.invariant-loop-i
invariant-loop-i g l =
    let c = verdicts g.C.RoadCode l.self.code.now in
    (j : ℕ) → j < l.i → PegKeeps c l.self.line.pegs.now j (len l.lengths j) × (j + 1 < length l.self.line.pegs.now → StretchKeeps c l.self.line.pegs.now l.self.line.fixed.now j (len l.lengths j) (len l.lengths (j + 1)))
