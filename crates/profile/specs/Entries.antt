-- The entries of a book, as edits: mark 1 places or fixes, mark 0 lifts or clears. Assumes nothing.
use Rattle.std.specs.Prelude.{ℕ, suc, cond, List, [], ◌∷◌, ◌++◌, Some, None, Option, ◌==◌}
use Rattle.pegs.specs.declared.edit.Edit.{Edit}
use Rattle.pegs.specs.declared.edit.Edit.TheVariants.{Place, Lift, Fix, Clear}
use Rattle.pegs.specs.declared.peg.FixedLevel.{FixedLevel}
use Rattle.pegs.specs.declared.peg.Peg.{Peg}
use Rattle.pegs.specs.declared.slot.Slot.{Slot}
use Rattle.pegs.specs.declared.tables.Tables.{Tables}

-- the edit that an entry stands for: its number, its sequence number and what it holds
abbrev pub peg_edit : ℕ → ℕ → Option Peg → Edit
peg_edit n s None = Lift n s
peg_edit n s (Some p) = Place n s p.station p.level

abbrev pub fixed_edit : ℕ → ℕ → Option FixedLevel → Edit
fixed_edit n s None = Clear n s
fixed_edit n s (Some f) = Fix n s f.station f.low f.high

-- the entries of slots, numbered from k on; a slot that was never edited has none
unfoldable pub entries_from : {V : Type 0} → (ℕ → ℕ → Option V → Edit) → ℕ → List (Slot V) → List Edit
entries_from edit k [] = []
entries_from edit k (s ∷ ss) = cond (s.last == 0) [] (edit k s.last s.held ∷ []) ++ entries_from edit (suc k) ss

-- the entries of a book with these contents
abbrev pub entries : Tables → List Edit
entries t = entries_from peg_edit 0 t.pegs ++ entries_from fixed_edit 0 t.fixed
