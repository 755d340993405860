-- The figures of what may stand in a book are as a book wants them: the laws of the trait `Held`, proved here. Assumes nothing.
use Rattle.std.specs.Prelude.{ℕ}
use Rattle.std.proofs.Common.{refl, lit<, zero-le}
use Rattle.std.proofs.Math.Nat.{le_trans, lt_of_le_of_lt}
use Rattle.pegs.specs.declared.peg.Peg.{Peg}
use Rattle.pegs.specs.declared.peg.FixedLevel.{FixedLevel}
use Rattle.book.specs.declared.entry.Table.TheVariants.{Pegs, Fixed}
use Rattle.book.specs.Book.{fixed_figures, peg_figures}
use Rattle.book.specs.Sound.{GoodFixed, GoodPeg}
use Rattle.book.specs.Wanted.{Fair, entry, next_entry, station}

-- of a good peg
pub fair_peg : (left lowest : ℕ) (p : Peg) → GoodPeg p → Fair (entry Pegs left lowest station) (peg_figures p) (next_entry Pegs left lowest)
unfolding Fair
fair_peg left lowest p (near, low) = (zero-le, near, lt_of_le_of_lt near (lit< tt), (zero-le, low, lt_of_le_of_lt low (lit< tt), refl))

-- of a good fixed level
pub fair_fixed : (left lowest : ℕ) (x : FixedLevel) → GoodFixed x → Fair (entry Fixed left lowest station) (fixed_figures x) (next_entry Fixed left lowest)
unfolding Fair
fair_fixed left lowest x (near, order, high) =
    let low = le_trans order high in
    (zero-le, near, lt_of_le_of_lt near (lit< tt), (zero-le, low, lt_of_le_of_lt low (lit< tt), (order, high, lt_of_le_of_lt high (lit< tt), refl)))
