-- The bytes of a book. Assumes nothing.
use Rattle.std.specs.Prelude.{◌≡◌, ℕ, suc, ◌+◌, cond, List, [], ◌∷◌, ◌++◌, Some, None, Option, ◌==◌}
use Rattle.pegs.specs.declared.peg.Peg.{Peg}
use Rattle.pegs.specs.declared.peg.FixedLevel.{FixedLevel}
use Rattle.pegs.specs.declared.slot.Slot.{Slot}
use Rattle.pegs.specs.declared.tables.Tables.{Tables}
use Rattle.book.specs.Numbers.{number}
use Rattle.book.specs.Sound.{Sound}

-- numbers, one after the other
unfoldable pub written : List ℕ → List ℕ
written [] = []
written (n ∷ ns) = number n ++ written ns

-- the figures of a peg
abbrev pub peg_figures : Peg → List ℕ
peg_figures p = p.station ∷ p.level ∷ []

-- the figures of a fixed level
abbrev pub fixed_figures : FixedLevel → List ℕ
fixed_figures x = x.station ∷ x.low ∷ x.high ∷ []

-- the mark 0 for what is lifted, or 1 and the figures of what is in force
abbrev pub marked_figures : {T : Type 0} → (T → List ℕ) → Option T → List ℕ
marked_figures figures None = 0 ∷ []
marked_figures figures (Some x) = 1 ∷ figures x

-- the numbers of the entry of the k-th slot
abbrev pub entry_numbers : {T : Type 0} → (T → List ℕ) → ℕ → Slot T → List ℕ
entry_numbers figures k s = k ∷ s.last ∷ marked_figures figures s.held

-- the numbers of the entries of all slots that were ever edited, the first of them the k-th
unfoldable pub entries : {T : Type 0} → (T → List ℕ) → ℕ → List (Slot T) → List ℕ
entries figures k [] = []
entries figures k (s ∷ ss) = cond (s.last == 0) [] (entry_numbers figures k s) ++ entries figures (suc k) ss

-- how many slots were ever edited
unfoldable pub edited : {T : Type 0} → List (Slot T) → ℕ
edited [] = 0
edited (s ∷ ss) = cond (s.last == 0) 0 1 + edited ss

-- the numbers of one table: the count of its entries, and these
abbrev pub table_numbers : {T : Type 0} → (T → List ℕ) → List (Slot T) → List ℕ
table_numbers figures ss = edited ss ∷ entries figures 0 ss

-- the numbers of a book: its form number 1, the pegs and the fixed levels
abbrev pub book_numbers : Tables → List ℕ
book_numbers t = 1 ∷ (table_numbers peg_figures t.pegs ++ table_numbers fixed_figures t.fixed)

-- the bytes of a book
abbrev pub encode : Tables → List ℕ
encode t = written (book_numbers t)

-- no two sound tables have one book
abbrev pub OneBook : Type 0
OneBook = (a b : Tables) → Sound a → Sound b → encode a ≡ encode b → a ≡ b
