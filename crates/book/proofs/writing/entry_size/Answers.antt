use Rattle.std.proofs.Common.{[], ◌∷◌, arith}
use Rattle.book.proofs.Writes.{length_both}
use Rattle.book.proofs.writing.entry_size.Goals as goal

pub returns-in-Some-clause-is : goal.returns-in-Some-clause-is
returns-in-Some-clause-is g c =
    rw c.in-Some.is
    (omega (arith, c.numbers_size-in-Some.ensures.is, c.size.ensures.is, length_both (c.args.number ∷ c.args.slot.now.last ∷ 1 ∷ []) (g.T.Held.figures c.in-Some.held)))
