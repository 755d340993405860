use Rattle.std.proofs.Common.{◌≡◌, subst, arith, below_more}
use Rattle.rules.specs.declared.turn.Bend.{Bend}
use Rattle.fitting.proofs.judge.Judge.check_turns.Goals as goal

pub loop-i-preserved : goal.loop-i-preserved
loop-i-preserved g c =
    below_more _ _ c.loop-i.invariant
    (λ never.
    let l = c.in_default.field-0 in
    let curve = g.C.RoadCode.curve_verdict c.args.self.now.code.now in
    never.refused l.metres l.step l.most (subst (λ (b : Bend). curve b l.metres ≡ 0) c.turn_at.ensures c.in_default.ensures.passes))

pub returns : goal.returns
returns g c i never = c.loop-i.invariant i (omega (arith, never.turns)) never
