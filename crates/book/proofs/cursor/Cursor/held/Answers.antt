use Rattle.std.proofs.Common.{◌≡◌, ℕ, subst, arith}
use Rattle.std.proofs.lemmas.Result.{err_from_is_err_and}
use Rattle.book.specs.Wanted.{entry, mark, marked}
use Rattle.book.proofs.Paths.{Way, after_way_in, misfit, passed_cons, passed_one, way_field}
use Rattle.book.proofs.cursor.Cursor.held.Goals as goal

pub returns-in_err-field : goal.returns-in_err-field
returns-in_err-field g c =
    let p = err_from_is_err_and c.from_residual.result c.from_residual.ensures.1 in
    rw (p.1, p.2) (λ left lowest. misfit c.args.self.now c.field.new.self g.T.Held.TABLE left lowest mark c.in_err-field.field-0.0 c.in_err-field.ensures)

pub returns-then-branch-eq0 : goal.returns-then-branch-eq0
returns-then-branch-eq0 g c =
    let i = c.in_ok-field.ensures in
    record {
      passed = passed_one 0 (rw c.if-branch-eq0.true at i.passed);
      good = λ x e. let q : ◌≡◌ {A = ℕ} 0 1 = cc in absurd (omega arith);
    }

pub returns-in_err-read : goal.returns-in_err-read
returns-in_err-read g c =
    let p = err_from_is_err_and c.from_residual-in_err-read.result c.from_residual-in_err-read.ensures.1 in
    let t = g.T.Held.TABLE in
    let i = c.in_ok-field.ensures in
    let one : c.in_ok-field.field-0 ≡ 1 = omega (arith, i.below) in
    rw (p.1, p.2)
    (λ left lowest. after_way_in (subst (λ m. Way c.args.self.now (entry t left lowest mark) c.field.new.self (marked t left lowest m)) one (way_field t left lowest mark i)) (c.in_err-read.ensures left lowest))

pub returns : goal.returns
returns g c =
    let i = c.in_ok-field.ensures in
    let one : c.in_ok-field.field-0 ≡ 1 = omega (arith, i.below) in
    let r = c.in_ok-read.ensures in
    record {
      passed = passed_cons 1 (g.T.Held.figures c.in_ok-read.field-0) (rw one at i.passed) r.passed;
      good = λ x e. subst g.T.Held.Good (cc) r.good;
    }
