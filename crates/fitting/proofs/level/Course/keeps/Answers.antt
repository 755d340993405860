use Rattle.std.proofs.Common.{arith}
use Rattle.std.proofs.lemmas.Bool.{le-leb, leb-true}
use Rattle.fitting.specs.Levels.{level_at}
use Rattle.fitting.proofs.Fractions.{at_least, at_most, from_at_least, from_at_most}
use Rattle.fitting.proofs.level.Course.keeps.Goals as goal

pub returns-then-low-e : goal.returns-then-low-e
returns-then-low-e c =
    let fixed = c.args.fixed in
    let f = level_at c.args.self.stretch c.args.self.left c.args.self.right fixed.station in
    let e = c.exact_at-e.result in
    let h = c.exact_at-e.ensures.stands in (
      λ b. (at_least f e fixed.low h c.if-low-e.true, at_most f e fixed.high h (leb-true _ _ b)),
      λ both. le-leb _ _ (from_at_most f e fixed.high h both.1),
    )

pub returns-else-low-e : goal.returns-else-low-e
returns-else-low-e c =
    let fixed = c.args.fixed in
    let f = level_at c.args.self.stretch c.args.self.left c.args.self.right fixed.station in
    let e = c.exact_at-e.result in
    let h = c.exact_at-e.ensures.stands in (
      λ b. absurd (omega (arith, leb-true _ _ b)),
      λ both. absurd (omega (arith, from_at_least f e fixed.low h both.0)),
    )
