use Rattle.std.proofs.Common.{ℕ, ◌<◌, ◌≤◌, ◌++◌, length, drop, sym, refl, ap, ◌∙◌, arith}
use Rattle.book.specs.Book.{encode, fixed_figures, peg_figures, table_numbers, written}
use Rattle.book.specs.Numbers.{number}
use Rattle.book.proofs.Sizes.{book_bytes}
use Rattle.book.proofs.Tables.{book_length, form_first}
use Rattle.book.proofs.Writes.{finish, first, step}
use Rattle.book.proofs.writing.write.Goals as goal

pub returns-then-out-number_size : goal.returns-then-out-number_size
returns-then-out-number_size c =
    let t = c.args.tables.now in
    let l : length c.args.out.now < length (encode t) = omega (arith, book_length t, c.tally_table-pegs.ensures.size, c.tally_table-fixed.ensures.size, c.number_size.ensures.is) in
    record { writes = (l, refl); short = λ o. omega (arith, l, book_bytes t o) }

pub returns : goal.returns
returns c =
    let t = c.args.tables.now in
    let ps = written (table_numbers peg_figures t.pegs) in
    let xs = written (table_numbers fixed_figures t.fixed) in
    let fits : length (encode t) ≤ length c.args.out.now = omega (arith, book_length t, c.tally_table-pegs.ensures.size, c.tally_table-fixed.ensures.size, c.number_size.ensures.is) in
    let n = c.write_number-start in
    let p = c.write_table in
    let x = c.write_table-2 in
    let g = first c.args.out.now (encode t) n.new.out (number 1) (ps ++ xs) n.result (form_first t) fits n.ensures.size n.ensures.text in
    let h = step g ps xs refl (omega (arith, fits)) p.new.out p.result p.ensures.size p.ensures.text in
    let s = finish h (omega (arith, fits)) x.new.out x.result x.ensures.size x.ensures.text in
    record {
      writes = (s.0, omega (arith, s.0, fits), s.1 ∙ ap (λ (k : ℕ). encode t ++ drop k c.args.out.now) (sym s.0));
      short = λ o. omega (arith, s.0, book_bytes t o);
    }
