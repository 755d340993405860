use Rattle.fitting.specs.Rules.{verdicts}
use Rattle.fitting.specs.Walked.{Walked}
use Rattle.fitting.proofs.passed.PassedLine.walk.Given as goal

abbrev pub invariant-loop-t : goal.invariant-loop-t
invariant-loop-t g l =
    let c = verdicts g.C.RoadCode l.self.code.now in
    Walked c l.self.line.pegs.now l.self.line.fixed.now l.store l.lengths l.t
