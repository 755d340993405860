use Rattle.std.proofs.Common.{◌+◌, arith}
use Rattle.book.specs.Numbers.{number}
use Rattle.book.proofs.Exact.{second}
use Rattle.book.proofs.Writes.{put_part}
use Rattle.book.proofs.number.write_pair.Goals as goal

pub returns : goal.returns
returns c =
    let out = c.args.out.now in
    let at = c.args.at in
    let a = c.write_number in
    let b = c.write_number-2 in
    let x = put_part out at (omega arith) (number c.args.first) a.new.out a.ensures.text in
    second out at c.args.first c.args.second (at + a.result) (at + a.result + b.result) _ _ (omega arith) (omega (arith, a.ensures.size)) (omega (arith, b.ensures.size)) x
    (put_part _ (at + a.result) (omega arith) (number c.args.second) b.new.out b.ensures.text)
