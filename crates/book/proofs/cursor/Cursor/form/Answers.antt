use Rattle.std.proofs.Common.{refl, arith}
use Rattle.std.proofs.lemmas.Result.{err_from_is_err_and}
use Rattle.book.specs.Wanted.{form}
use Rattle.book.proofs.Paths.{unread_at}
use Rattle.book.proofs.Slots.{not_one}
use Rattle.book.proofs.cursor.Cursor.form.Goals as goal

pub returns-in_err-number : goal.returns-in_err-number
returns-in_err-number c =
    let p = err_from_is_err_and c.from_residual.result c.from_residual.ensures.1 in
    rw (p.1, p.2) (unread_at c.args.self.now form c.in_err-number.field-0.0 (λ k h. h) (λ k. refl) c.in_err-number.ensures)

pub returns-then-branch-ne1 : goal.returns-then-branch-ne1
returns-then-branch-ne1 c = not_one c.args.self.now c.number.new.self c.in_ok-number.field-0 c.in_ok-number.ensures (omega arith) c.if-branch-ne1.true
