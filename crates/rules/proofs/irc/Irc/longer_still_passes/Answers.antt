use Rattle.rules.proofs.Longer.{curve_longer}
use Rattle.rules.specs.Irc.{sight_rule}
use Rattle.rules.specs.Speeds.{asked, design_speed}
use Rattle.rules.specs.Turns.{base, change, kind}
use Rattle.rules.proofs.irc.Irc.longer_still_passes.Goals as goal

pub returns : goal.returns
returns c =
    let r = c.args.self.now.road in
    λ b l m h. curve_longer (asked (design_speed r)) (sight_rule r (kind b)) (change b) (base b) l m h
