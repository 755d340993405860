-- What writing a book does. Assumes nothing.
use Rattle.std.specs.Prelude.{◌≡◌, ℕ, ◌<◌, ◌≤◌, List, ◌++◌, length, drop, Ok, Err, Result}
use Rattle.pegs.specs.declared.slot.Slot.{Slot}
use Rattle.pegs.specs.declared.tables.Tables.{Tables}
use Rattle.book.specs.declared.fault.TooShort.{TooShort}
use Rattle.book.specs.declared.writing.Tally.{Tally}
use Rattle.book.specs.Book.{edited, encode, table_numbers, written}
use Rattle.book.specs.Sound.{Sound}

-- the count of a table's entries, and the length of the table's bytes
pub record Tallied {T : Type 0} (figures : T → List ℕ) (ss : List (Slot T)) (t : Tally) : Type 0 where
  pub count : t.count ≡ edited ss
  pub size : t.size ≡ length (written (table_numbers figures ss))
  pub few : t.size ≤ 1205

-- the book stands at the front, and the bytes beyond it stay; or the buffer is shorter than the book, and all stays
abbrev pub Writes : List ℕ → Tables → List ℕ → Result ℕ TooShort → Type 0
Writes before t after (Ok n) = (n ≡ length (encode t)) × (n ≤ length before) × (after ≡ encode t ++ drop n before)
Writes before t after (Err _) = (length before < length (encode t)) × (after ≡ before)

-- a book of sound tables has at most 795 bytes, so that a buffer of 795 is never too short
abbrev pub Short : List ℕ → Tables → Result ℕ TooShort → Type 0
Short before t (Ok n) = Sound t → n ≤ 795
Short before t (Err _) = Sound t → length before < 795
