-- What reading a book, and each part of it, answers. Assumes nothing.
use Rattle.std.specs.Prelude.{◌≡◌, ℕ, ◌^◌, ◌<◌, ◌≤◌, List, length, Some, Ok, Err, Option, Result}
use Rattle.pegs.specs.declared.slot.Slot.{Slot}
use Rattle.pegs.specs.declared.tables.Tables.{Tables}
use Rattle.book.specs.declared.cursor.Cursor.{Cursor}
use Rattle.book.specs.declared.entry.Entry.{Entry}
use Rattle.book.specs.declared.entry.Field.{Field}
use Rattle.book.specs.declared.entry.Table.{Table}
use Rattle.book.specs.declared.fault.BookFault.{BookFault}
use Rattle.book.specs.declared.fault.EntryFault.{EntryFault}
use Rattle.book.specs.Book.{encode, entry_numbers, marked_figures, table_numbers, written}
use Rattle.book.specs.Numbers.{number, Passed}
use Rattle.book.specs.Sound.{Sound, SoundSlots}
use Rattle.book.specs.Wanted.{Misread, Reason, count, entry, entry_number, entry_told, FirstFault, FirstFrom, FirstInEntry, form, highest, mark, size, station}

-- a number from lo to hi is read and passed
pub record InRange (a b : Cursor) (lo hi n : ℕ) : Type 0 where
  pub passed : Passed a b (number n)
  pub above : lo ≤ n
  pub below : n ≤ hi

-- a number of an entry is read, or what is wrong with it is told
abbrev pub Fielded : Cursor → Field → Cursor → Result ℕ EntryFault → Type 0
Fielded a f b (Ok n) = InRange a b f.least f.most n
Fielded a f b (Err x) = (r : Reason) × Misread a.bytes.now a.at f.least f.most r × (x ≡ entry_told f a.at r)

-- the figures of what is in force are read
pub record FiguresRead {T : Type 0} (figures : T → List ℕ) (Good : T → Type 0) (a b : Cursor) (x : T) : Type 0 where
  pub passed : Passed a b (written (figures x))
  pub good : Good x

-- the figures are read, or the first fault in them is told
abbrev pub Figured : {T : Type 0} → Table → (T → List ℕ) → (T → Type 0) → Cursor → Cursor → Result T EntryFault → Type 0
Figured t figures Good a b (Ok x) = FiguresRead figures Good a b x
Figured t figures Good a b (Err x) = (left lowest : ℕ) → FirstInEntry a.bytes.now a.at (entry t left lowest station) x

-- a mark is read, and the figures of what is in force
pub record MarkRead {T : Type 0} (figures : T → List ℕ) (Good : T → Type 0) (a b : Cursor) (o : Option T) : Type 0 where
  pub passed : Passed a b (written (marked_figures figures o))
  pub good : (x : T) → o ≡ Some x → Good x

-- a mark and the figures after it are read, or the first fault in them is told
abbrev pub Marked : {T : Type 0} → Table → (T → List ℕ) → (T → Type 0) → Cursor → Cursor → Result (Option T) EntryFault → Type 0
Marked t figures Good a b (Ok o) = MarkRead figures Good a b o
Marked t figures Good a b (Err x) = (left lowest : ℕ) → FirstInEntry a.bytes.now a.at (entry t left lowest mark) x

-- an entry is read
pub record EntryRead {T : Type 0} (t : Table) (figures : T → List ℕ) (Good : T → Type 0) (a b : Cursor) (lowest : ℕ) (e : Entry T) : Type 0 where
  pub passed : Passed a b (written (entry_numbers figures e.number e.slot))
  pub above : lowest ≤ e.number
  pub below : e.number ≤ highest t
  pub last : 1 ≤ e.slot.last
  pub fits : e.slot.last < 2 ^ 32
  pub good : (x : T) → e.slot.held ≡ Some x → Good x

-- an entry is read, or the first fault in it is told
abbrev pub Entered : {T : Type 0} → Table → (T → List ℕ) → (T → Type 0) → Cursor → ℕ → Cursor → Result (Entry T) EntryFault → Type 0
Entered t figures Good a lowest b (Ok e) = EntryRead t figures Good a b lowest e
Entered t figures Good a lowest b (Err x) = (left : ℕ) → FirstInEntry a.bytes.now a.at (entry t left lowest entry_number) x

-- the form number is read, or what is wrong with it is told
abbrev pub Formed : Cursor → Cursor → Result (Unit {0}) BookFault → Type 0
Formed a b (Ok u) = Passed a b (number 1)
Formed a b (Err x) = FirstFrom a.bytes.now a.at form x

-- a count is read, or what is wrong with it is told
abbrev pub Counted : Cursor → Table → Cursor → Result ℕ BookFault → Type 0
Counted a t b (Ok n) = InRange a b 0 (size t) n
Counted a t b (Err x) = FirstFrom a.bytes.now a.at (count t) x

-- the entries of a table are read, into its slots
pub record TableRead {T : Type 0} (t : Table) (figures : T → List ℕ) (Good : T → Type 0) (a b : Cursor) (ss : List (Slot T)) : Type 0 where
  pub passed : Passed a b (written (table_numbers figures ss))
  pub long : length ss ≡ size t
  pub sound : SoundSlots Good ss

-- the entries of a table are read, or the first fault in them is told
abbrev pub TableAnswered : {T : Type 0} → Table → (T → List ℕ) → (T → Type 0) → Cursor → List (Slot T) → Cursor → Result (Unit {0}) BookFault → Type 0
TableAnswered t figures Good a ss b (Ok u) = TableRead t figures Good a b ss
TableAnswered t figures Good a ss b (Err x) = FirstFrom a.bytes.now a.at (count t) x

-- sound tables are read, whose book these bytes are, or the first fault is told
abbrev pub Reads : List ℕ → Result Tables BookFault → Type 0
Reads bs (Ok t) = Sound t × (bs ≡ encode t)
Reads bs (Err x) = FirstFault bs x

-- sound tables whose book these bytes are, and no others, are what is read
abbrev pub Exact : List ℕ → Result Tables BookFault → Type 0
Exact bs r = (t : Tables) → Sound t → bs ≡ encode t → r ≡ Ok t

-- a first fault is told, and no other
abbrev pub Told : List ℕ → Result Tables BookFault → Type 0
Told bs r = (x : BookFault) → FirstFault bs x → r ≡ Err x
