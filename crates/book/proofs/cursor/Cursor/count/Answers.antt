use Rattle.std.proofs.Common.{refl, arith}
use Rattle.std.proofs.lemmas.Result.{err_from_is_err_and}
use Rattle.book.specs.declared.fault.BookFault.TheVariants as bookfault
use Rattle.book.specs.Wanted.{above, count}
use Rattle.book.proofs.Paths.{at_once, unread_at}
use Rattle.book.proofs.cursor.Cursor.count.Goals as goal

pub returns-in_err-count : goal.returns-in_err-count
returns-in_err-count c =
    let p = err_from_is_err_and c.from_residual.result c.from_residual.ensures.1 in
    rw (p.1, p.2) (unread_at c.args.self.now (count c.args.table) c.in_err-count.field-0.0 (λ k h. h) (λ k. refl) c.in_err-count.ensures)

pub returns-then-count-size : goal.returns-then-count-size
returns-then-count-size c =
    let a = c.args.self.now in
    at_once a.bytes.now a.at (count c.args.table) above (bookfault.Count a.at) a.within
    (record { value = c.in_ok-count.count; to = c.number.new.self.at; small = omega arith; stands = c.in_ok-count.ensures.stands; has = omega arith }) refl
