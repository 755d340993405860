use Rattle.std.proofs.Common.{sym, subst}
use Rattle.fitting.specs.Stretches.{Lengths, Sound}
use Rattle.fitting.proofs.OnLine.{stretch_lengths, stretch_sound}
use Rattle.fitting.proofs.rules_met.Span.level_kept.Goals as goal

pub invariant_of-keeps : goal.invariant_of-keeps
invariant_of-keeps c =
    let s = c.args.self.now in
    let ps = s.line.pegs.now in
    let so = s.line.sound in
    let e = sym c.stretch_at.ensures in
    record {
      sound = subst Sound e (stretch_sound ps s.at so.rising so.figures s.there);
      lengths = subst (λ t. Lengths t s.left.metres s.right.metres) e
          (stretch_lengths ps s.at s.left.metres s.right.metres so.rising s.there s.left.most s.right.most c.requires.apart s.first s.last);
    }
