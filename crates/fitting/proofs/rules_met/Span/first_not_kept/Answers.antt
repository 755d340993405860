use Rattle.std.proofs.Common.{arith}
use Rattle.fitting.specs.Levels.{level_at, stretch}
use Rattle.fitting.specs.Rules.{OnStretch, Within}
use Rattle.fitting.proofs.Slots.{every_slot}
use Rattle.fitting.proofs.rules_met.Span.first_not_kept.Goals as goal

pub returns : goal.returns
returns c =
    let s = c.args.self.now in
    let ps = s.line.pegs.now in
    every_slot s.line.fixed.now (λ f. OnStretch ps s.at f.station → Within f (level_at (stretch ps s.at) s.left.metres s.right.metres f.station)) (λ m low. c.loop-n.invariant m (omega (arith, s.line.sound.sixteen)))
