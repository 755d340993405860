use Rattle.std.proofs.Common.{ℕ, ◌<◌, ◌≤◌, length}
use Rattle.fitting.specs.Rows.{RowsFrom}
use Rattle.fitting.specs.Rules.{Closed, verdicts}
use Rattle.fitting.proofs.passed.PassedLine.fill_rows.Given as goal

abbrev pub invariant-loop-t : goal.invariant-loop-t
invariant-loop-t g l =
    let c = verdicts g.C.RoadCode l.self.code.now in
    RowsFrom c l.self.line.pegs.now l.self.line.fixed.now l.store l.t
    × ((u : ℕ) → l.t ≤ u → u < length l.self.line.pegs.now → Closed c l.self.line.pegs.now l.self.line.fixed.now u → ⊥)
