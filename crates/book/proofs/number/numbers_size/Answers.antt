use Rattle.std.proofs.Common.{◌≡◌, length, arith, rules}
use Rattle.std.specs.List.{sum_by}
use Rattle.book.specs.Book.{written}
use Rattle.book.specs.Numbers.{number}
use Rattle.book.proofs.Groups.{written_most}
use Rattle.book.proofs.Writes.{length_sum}
use Rattle.book.proofs.number.numbers_size.Goals as goal

pub returns : goal.returns
returns c =
    let ns = c.args.numbers.now in
    let e : c.sum.result ≡ sum_by (λ n. length (number n)) ns = search rules in
    let is : c.sum.result ≡ length (written ns) = omega (arith, length_sum ns) in
    record { is = is; few = omega (arith, written_most ns) }
