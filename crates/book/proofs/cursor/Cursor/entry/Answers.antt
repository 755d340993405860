use Rattle.std.proofs.Common.{◌+◌, ◌∷◌, arith}
use Rattle.std.proofs.lemmas.Result.{err_from_is_err_and}
use Rattle.book.specs.Book.{marked_figures}
use Rattle.book.specs.Wanted.{entry_number, sequence}
use Rattle.book.proofs.Paths.{after_way_in, misfit, passed_cons, way_field}
use Rattle.book.proofs.cursor.Cursor.entry.Goals as goal

pub returns-in_err-number : goal.returns-in_err-number
returns-in_err-number g c =
    let p = err_from_is_err_and c.from_residual.result c.from_residual.ensures.1 in
    let e = rw (c.number_field.ensures, c.TABLE.ensures) at c.in_err-number.ensures in
    rw (p.1, p.2) (λ left. misfit c.args.self.now c.field.new.self g.T.Held.TABLE left c.args.lowest entry_number c.in_err-number.field-0.0 e)

pub returns-in_err-last : goal.returns-in_err-last
returns-in_err-last g c =
    let p = err_from_is_err_and c.from_residual-in_err-last.result c.from_residual-in_err-last.ensures.1 in
    let t = g.T.Held.TABLE in
    let i = rw (c.number_field.ensures, c.TABLE.ensures) at c.in_ok-number.ensures in
    rw (p.1, p.2)
    (λ left. after_way_in (way_field t left c.args.lowest entry_number i) (misfit c.field.new.self c.field-2.new.self t left (c.in_ok-number.number + 1) sequence c.in_err-last.field-0.0 c.in_err-last.ensures))

pub returns-in_err-held : goal.returns-in_err-held
returns-in_err-held g c =
    let p = err_from_is_err_and c.from_residual-in_err-held.result c.from_residual-in_err-held.ensures.1 in
    let t = g.T.Held.TABLE in
    let i = rw (c.number_field.ensures, c.TABLE.ensures) at c.in_ok-number.ensures in
    rw (p.1, p.2)
    (λ left. after_way_in (way_field t left c.args.lowest entry_number i)
    (after_way_in (way_field t left (c.in_ok-number.number + 1) sequence c.in_ok-last.ensures) (c.in_err-held.ensures left (c.in_ok-number.number + 1))))

pub returns : goal.returns
returns g c =
    let i = rw (c.number_field.ensures, c.TABLE.ensures) at c.in_ok-number.ensures in
    let j = c.in_ok-last.ensures in
    let h = c.in_ok-held.ensures in
    let rest = marked_figures g.T.Held.figures c.in_ok-held.held in
    record {
      passed = passed_cons c.in_ok-number.number (c.in_ok-last.last ∷ rest) i.passed (passed_cons c.in_ok-last.last rest j.passed h.passed);
      above = i.above;
      below = i.below;
      last = j.above;
      fits = omega arith;
      good = h.good;
    }
