use Rattle.std.proofs.lemmas.Result.{err_from_is_err_and}
use Rattle.book.proofs.Laws.{all_read, all_sound, form_way, left_over, pegs_way}
use Rattle.book.proofs.Paths.{after_way}
use Rattle.book.proofs.reading.read_tables.Goals as goal

pub returns-in_err-table : goal.returns-in_err-table
returns-in_err-table c =
    let p = err_from_is_err_and c.from_residual-in_err-table.result c.from_residual-in_err-table.ensures.1 in
    rw (p.1, p.2) (after_way (form_way c.in_ok-form.ensures) c.in_err-table.ensures)

pub returns-in_err-table-2 : goal.returns-in_err-table-2
returns-in_err-table-2 c =
    let p = err_from_is_err_and c.from_residual-in_err-table-2.result c.from_residual-in_err-table-2.ensures.1 in
    rw (p.1, p.2) (after_way (pegs_way c.in_ok-form.ensures c.in_ok-table.ensures) c.in_err-table-2.ensures)

pub returns-then-cursor-bytes : goal.returns-then-cursor-bytes
returns-then-cursor-bytes c = left_over c.in_ok-form.ensures c.in_ok-table.ensures c.in_ok-table-2.ensures c.if-cursor-bytes.true

pub returns : goal.returns
returns c = (
  all_sound c.in_ok-form.ensures c.in_ok-table.ensures c.in_ok-table-2.ensures,
  all_read c.in_ok-form.ensures c.in_ok-table.ensures c.in_ok-table-2.ensures c.if-cursor-bytes.false,
)
