use Rattle.std.proofs.Common.{ap}
use Rattle.std.proofs.lemmas.Result.{err_from_is_err_and}
use Rattle.book.specs.declared.fault.EntryFault.TheVariants as entryfault
use Rattle.book.specs.Wanted.{unread}
use Rattle.book.proofs.cursor.Cursor.field.Goals as goal

pub returns-in_err-value : goal.returns-in_err-value
returns-in_err-value c =
    let p = err_from_is_err_and c.from_residual.result c.from_residual.ensures.1 in
    let x = c.in_err-value.field-0.0 in
    let e = c.in_err-value.ensures in
    rw (p.1, p.2) (unread x.kind, e.1, ap entryfault.Unread (λ i. record { place = e.0 i; kind = x.kind }))
