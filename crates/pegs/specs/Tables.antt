-- What an edit does to the tables. Assumes nothing.
use Rattle.std.specs.Prelude.{◌≡◌, ℕ, ◌<◌, replicate, Some, None, Ok, Err, Result, slice_index_or, slice_set}
use Rattle.pegs.specs.declared.edit.Edit.{Edit}
use Rattle.pegs.specs.declared.edit.Edit.TheVariants.{Place, Lift, Fix, Clear}
use Rattle.pegs.specs.declared.edit.EditRefusal.{EditRefusal}
use Rattle.pegs.specs.declared.edit.EditRefusal.TheVariants.{NumberTooHigh, SequenceZero, StationTooHigh, LevelTooHigh, LowAboveHigh, SequenceLower, SequenceEqual}
use Rattle.pegs.specs.declared.peg.FixedLevel.{FixedLevel}
use Rattle.pegs.specs.declared.peg.Peg.{Peg}
use Rattle.pegs.specs.declared.slot.Slot.{Slot}
use Rattle.pegs.specs.declared.tables.Tables.{Tables}
use Rattle.pegs.specs.Edits.{FormRefused, WellFormed, sequence}
use Rattle.pegs.specs.Slots.{untouched}

-- no slot was ever edited
abbrev pub no_tables : Tables
no_tables = record { pegs = replicate 40 untouched; fixed = replicate 16 untouched }

abbrev pub peg_slot : Tables → ℕ → Slot Peg
peg_slot t n = slice_index_or t.pegs n untouched

abbrev pub fixed_slot : Tables → ℕ → Slot FixedLevel
fixed_slot t n = slice_index_or t.fixed n untouched

-- the tables with one slot written, and every other as it was
abbrev pub with_peg : Tables → ℕ → Slot Peg → Tables
with_peg t n x = record { pegs = slice_set t.pegs n x; fixed = t.fixed }

abbrev pub with_fixed : Tables → ℕ → Slot FixedLevel → Tables
with_fixed t n x = record { pegs = t.pegs; fixed = slice_set t.fixed n x }

-- the sequence number that the edit's slot remembers
abbrev pub remembered : Edit → Tables → ℕ
remembered (Place n s st l) t = (peg_slot t n).last
remembered (Lift n s) t = (peg_slot t n).last
remembered (Fix n s st l h) t = (fixed_slot t n).last
remembered (Clear n s) t = (fixed_slot t n).last

-- the edit's slot as it says, and every other slot as it was
abbrev pub written : Edit → Tables → Tables
written (Place n s st l) t = with_peg t n (record { last = s; held = Some (record { station = st; level = l }) })
written (Lift n s) t = with_peg t n (record { last = s; held = None })
written (Fix n s st l h) t = with_fixed t n (record { last = s; held = Some (record { station = st; low = l; high = h }) })
written (Clear n s) t = with_fixed t n (record { last = s; held = None })

-- why the edit is refused at these tables: for its form, or because a newer or equal one stands
abbrev pub EditRefused : Edit → Tables → EditRefusal → Type 0
EditRefused e t NumberTooHigh = FormRefused e NumberTooHigh
EditRefused e t SequenceZero = FormRefused e SequenceZero
EditRefused e t StationTooHigh = FormRefused e StationTooHigh
EditRefused e t LevelTooHigh = FormRefused e LevelTooHigh
EditRefused e t LowAboveHigh = FormRefused e LowAboveHigh
EditRefused e t SequenceLower = WellFormed e × (sequence e < remembered e t)
EditRefused e t SequenceEqual = WellFormed e × (sequence e ≡ remembered e t)

-- an edit is accepted and writes its slot, or is refused and the tables stay
abbrev pub Edited : Edit → Tables → Tables → Result (Unit {0}) EditRefusal → Type 0
Edited e b a (Ok u) = WellFormed e × (remembered e b < sequence e) × (a ≡ written e b)
Edited e b a (Err x) = EditRefused e b x × (a ≡ b)
