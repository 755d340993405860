use Rattle.std.proofs.Common.{ℕ, ◌+◌, ◌-◌, ◌*◌, refl, ap, ◌∙◌, arith}
use Rattle.rules.specs.Points.{run}
use Rattle.fitting.proofs.Between.{not_above, not_below}
use Rattle.fitting.proofs.Covered.{on_left, on_neither, on_right}
use Rattle.fitting.proofs.level.Course.exact_at.Goals as goal

pub returns-then-along-l-clause-stands : goal.returns-then-along-l-clause-stands
returns-then-along-l-clause-stands c =
    let t = c.args.self.stretch in
    let l = c.args.self.left in
    let d = c.args.s - t.from.station in
    let p = l - 2 * d in
    let eu = c.curved.ensures.up ∙ ap (λ (z : ℕ). 8 * l * run t.before t.from * (t.from.level * (t.to.station - c.args.s) + t.to.level * d) + z * (p * p)) c.pull_of-pull.ensures.up.0 in
    let ed = c.curved.ensures.down ∙ ap (λ (z : ℕ). z * (p * p)) c.pull_of-pull.ensures.down.0 in
    on_left t l c.args.self.right c.args.s c.curved.result c.args.self.sound c.args.self.lengths c.requires c.if-along-l.true eu ed c.curved.ensures.den

pub returns-then-along-l-clause-between : goal.returns-then-along-l-clause-between
returns-then-along-l-clause-between c room =
    let t = c.args.self.stretch in
    let l = c.args.self.left in
    let d = c.args.s - t.from.station in
    let y = t.to.station - c.args.s in
    let o = run t.before t.from in
    let g = run t.from t.to in
    let p = l - 2 * d in
    let eu = c.curved.ensures.up ∙ ap (λ (z : ℕ). 8 * l * o * (t.from.level * y + t.to.level * d) + z * (p * p)) c.pull_of-pull.ensures.up.0 in
    let ed = c.curved.ensures.down ∙ ap (λ (z : ℕ). z * (p * p)) c.pull_of-pull.ensures.down.0 in
    let low = not_below t.from.level t.to.level t.before.level g o l d y p (omega arith) (omega arith) (omega arith) (omega arith) in
    let high = not_above 9000000 t.from.level t.to.level t.before.level g o l d y p (omega arith) (omega arith) (omega arith) (omega arith) (omega arith) (omega arith) (omega arith) in
    rw (eu, ed, c.curved.ensures.den) (omega arith)

pub returns-then-rest-r-clause-stands : goal.returns-then-rest-r-clause-stands
returns-then-rest-r-clause-stands c =
    let t = c.args.self.stretch in
    let l = c.args.self.right in
    let d = t.to.station - c.args.s in
    let p = l - 2 * d in
    let eu = c.curved-then-rest-r.ensures.up ∙ ap (λ (z : ℕ). 8 * l * run t.to t.after * (t.from.level * d + t.to.level * (c.args.s - t.from.station)) + z * (p * p)) c.pull_of-pull-then-rest-r.ensures.up.0 in
    let ed = c.curved-then-rest-r.ensures.down ∙ ap (λ (z : ℕ). z * (p * p)) c.pull_of-pull-then-rest-r.ensures.down.0 in
    on_right t c.args.self.left l c.args.s c.curved-then-rest-r.result c.args.self.sound c.args.self.lengths c.requires c.if-along-l.false c.if-rest-r.true eu ed c.curved-then-rest-r.ensures.den

pub returns-then-rest-r-clause-between : goal.returns-then-rest-r-clause-between
returns-then-rest-r-clause-between c room =
    let t = c.args.self.stretch in
    let l = c.args.self.right in
    let d = t.to.station - c.args.s in
    let y = c.args.s - t.from.station in
    let o = run t.to t.after in
    let g = run t.from t.to in
    let p = l - 2 * d in
    let eu = c.curved-then-rest-r.ensures.up ∙ ap (λ (z : ℕ). 8 * l * o * (t.from.level * d + t.to.level * y) + z * (p * p)) c.pull_of-pull-then-rest-r.ensures.up.0 in
    let ed = c.curved-then-rest-r.ensures.down ∙ ap (λ (z : ℕ). z * (p * p)) c.pull_of-pull-then-rest-r.ensures.down.0 in
    let low = not_below t.to.level t.from.level t.after.level g o l d y p (omega arith) (omega arith) (omega arith) (omega arith) in
    let high = not_above 9000000 t.to.level t.from.level t.after.level g o l d y p (omega arith) (omega arith) (omega arith) (omega arith) (omega arith) (omega arith) (omega arith) in
    rw (eu, ed, c.curved-then-rest-r.ensures.den) (omega arith)

pub returns-clause-stands : goal.returns-clause-stands
returns-clause-stands c = on_neither c.args.self.stretch c.args.self.left c.args.self.right c.args.s _ c.args.self.sound c.requires c.if-along-l.false c.if-rest-r.false refl refl refl
