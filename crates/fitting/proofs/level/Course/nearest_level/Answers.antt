use Rattle.std.proofs.Common.{ℕ, ◌+◌, ◌-◌, ◌*◌, ◌≤◌, arith}
use Rattle.fitting.specs.declared.level.Exact.{Exact}
use Rattle.fitting.specs.Levels.{AtLeast, AtMost, Fraction, Nearest}
use Rattle.fitting.specs.Stretches.{Stands}
use Rattle.fitting.proofs.Fractions.{at_least, at_most, nearest}
use Rattle.fitting.proofs.Rounding.{Rounded, round_down, round_up}
use Rattle.fitting.proofs.level.Course.nearest_level.Goals as goal

-- numbers that stand for a level from 0 to 9,000,000 mm
abbrev Between : Exact → Type 0
Between e = (e.down ≤ e.up) × (e.up ≤ 9000000 * e.den + e.down)

near : (f : Fraction) (e : Exact) (r : ℕ) → Stands f e → Between e → Rounded (e.up - e.down) e.den r → Nearest f r
near f e r h b w = nearest f e r (e.up - e.down) h (omega arith) w.low w.high

range : (f : Fraction) (e : Exact) → Stands f e → Between e → AtLeast 0 f × AtMost 9000000 f
range f e h b = (at_least f e 0 h (omega arith), at_most f e 9000000 h b.1)

pub returns-then-num-e-clause-nearest : goal.returns-then-num-e-clause-nearest
returns-then-num-e-clause-nearest c =
    let e = c.exact_at-e.ensures in
    near _ c.exact_at-e.result _ e.stands (e.between c.requires.room) (round_down _ _ e.stands.some c.if-num-e.true)

pub returns-then-num-e-clause-range : goal.returns-then-num-e-clause-range
returns-then-num-e-clause-range c = range _ c.exact_at-e.result c.exact_at-e.ensures.stands (c.exact_at-e.ensures.between c.requires.room)

pub returns-else-num-e-clause-nearest : goal.returns-else-num-e-clause-nearest
returns-else-num-e-clause-nearest c =
    let e = c.exact_at-e.ensures in
    near _ c.exact_at-e.result _ e.stands (e.between c.requires.room) (round_up _ _ e.stands.some c.if-num-e.false)

pub returns-else-num-e-clause-range : goal.returns-else-num-e-clause-range
returns-else-num-e-clause-range c = range _ c.exact_at-e.result c.exact_at-e.ensures.stands (c.exact_at-e.ensures.between c.requires.room)
