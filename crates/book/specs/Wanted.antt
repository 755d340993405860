-- Which number a book wants next, and where a book goes wrong first. Assumes nothing.
use Rattle.std.specs.Prelude.{◌≡◌, ℕ, zero, suc, ◌+◌, ◌^◌, ◌<◌, ◌≤◌, List, [], ◌∷◌, length}
use Rattle.book.specs.declared.entry.Field.{Field}
use Rattle.book.specs.declared.entry.Table.{Table}
use Rattle.book.specs.declared.entry.Table.TheVariants.{Pegs, Fixed}
use Rattle.book.specs.declared.fault.BookFault.{BookFault}
use Rattle.book.specs.declared.fault.BookFault.TheVariants as bookfault
use Rattle.book.specs.declared.fault.EntryFault.{EntryFault}
use Rattle.book.specs.declared.fault.EntryFault.TheVariants as entryfault
use Rattle.book.specs.declared.fault.Misfit.TheVariants.{NumberTooHigh, NotRising, SequenceZero, NoMark, StationTooHigh, LevelTooHigh, LowAboveHigh}
use Rattle.book.specs.declared.fault.NumberKind.{NumberKind}
use Rattle.book.specs.Book.{written}
use Rattle.book.specs.Numbers.{number, NoNumber, Stands}

-- how many slots a table has
abbrev pub size : Table → ℕ
size Pegs = 40
size Fixed = 16

-- the highest number of a slot
abbrev pub highest : Table → ℕ
highest Pegs = 39
highest Fixed = 15

-- the numbers that an entry has; of a high bound, with the low one before it
pub data Part : Type 0 where
  entry_number : Part
  sequence : Part
  mark : Part
  station : Part
  level : Part
  low_bound : Part
  high_bound : (bound : ℕ) → Part

-- what a number of an entry may be at least and at most, and what is told of one below or above; entries rise, so their numbers have a lowest
abbrev pub field : Table → ℕ → Part → Field
field t lowest entry_number = record { least = lowest; most = highest t; below = NotRising; above = NumberTooHigh }
field t lowest sequence = record { least = 1; most = 4294967295; below = SequenceZero; above = SequenceZero }
field t lowest mark = record { least = 0; most = 1; below = NoMark; above = NoMark }
field t lowest station = record { least = 0; most = 10000; below = StationTooHigh; above = StationTooHigh }
field t lowest level = record { least = 0; most = 9000000; below = LevelTooHigh; above = LevelTooHigh }
field t lowest low_bound = record { least = 0; most = 9000000; below = LevelTooHigh; above = LevelTooHigh }
field t lowest (high_bound bound) = record { least = bound; most = 9000000; below = LowAboveHigh; above = LevelTooHigh }

-- the number wanted next: of an entry, how many entries are left after it, and the lowest number that the next one may have
pub data Want : Type 0 where
  form : Want
  count : (t : Table) → Want
  entry : (t : Table) (left lowest : ℕ) (part : Part) → Want
  nothing : Want

-- the least number that may stand there
abbrev pub least : Want → ℕ
least form = 1
least (count t) = 0
least (entry t left lowest part) = (field t lowest part).least
least nothing = 1

-- the greatest number that may stand there
abbrev pub most : Want → ℕ
most form = 1
most (count t) = size t
most (entry t left lowest part) = (field t lowest part).most
most nothing = 0

-- after the pegs stand the fixed levels, and after these nothing
abbrev pub next_table : Table → Want
next_table Pegs = count Fixed
next_table Fixed = nothing

-- an entry where some are left, else what comes after the table
abbrev pub next_entry : Table → ℕ → ℕ → Want
next_entry t zero lowest = next_table t
next_entry t (suc left) lowest = entry t left lowest entry_number

-- a mark 0 ends the entry, and figures follow the mark 1
abbrev pub marked : Table → ℕ → ℕ → ℕ → Want
marked t left lowest zero = next_entry t left lowest
marked t left lowest (suc n) = entry t left lowest station

-- a peg has one level, a fixed level two bounds
abbrev pub after_station : Table → Part
after_station Pegs = level
after_station Fixed = low_bound

-- what is wanted after a number of an entry
abbrev pub after_part : Table → ℕ → ℕ → Part → ℕ → Want
after_part t left lowest entry_number n = entry t left (n + 1) sequence
after_part t left lowest sequence n = entry t left lowest mark
after_part t left lowest mark n = marked t left lowest n
after_part t left lowest station n = entry t left lowest (after_station t)
after_part t left lowest level n = next_entry t left lowest
after_part t left lowest low_bound n = entry t left lowest (high_bound n)
after_part t left lowest (high_bound bound) n = next_entry t left lowest

-- what is wanted after a number
abbrev pub after : Want → ℕ → Want
after form n = count Pegs
after (count t) n = next_entry t n 0
after (entry t left lowest part) n = after_part t left lowest part n
after nothing n = nothing

-- numbers that are all as wanted, from what is wanted first to what is wanted next
unfoldable pub Fair : Want → List ℕ → Want → Type 0
Fair w [] v = w ≡ v
Fair w (n ∷ ns) v = (least w ≤ n) × (n ≤ most w) × (n < 2 ^ 32) × Fair (after w n) ns v

-- what can be wrong where a number is wanted: none stands there, or one above or below what may
pub data Reason : Type 0 where
  unread : NumberKind → Reason
  above : Reason
  below : Reason

-- a number of 32 bits with a property stands at a place
pub record NumberAt (bs : List ℕ) (p : ℕ) (Has : ℕ → Type 0) : Type 0 where
  pub value : ℕ
  pub to : ℕ
  pub small : value < 2 ^ 32
  pub stands : Stands bs p (number value) to
  pub has : Has value

-- the reason applies at a place where a number from lo to hi is wanted; above is told before below
abbrev pub Misread : List ℕ → ℕ → ℕ → ℕ → Reason → Type 0
Misread bs p lo hi (unread kind) = NoNumber bs p kind
Misread bs p lo hi above = NumberAt bs p (λ n. hi < n)
Misread bs p lo hi below = NumberAt bs p (λ n. (n ≤ hi) × (n < lo))

-- what is wrong at a place: the number wanted there, or a byte where nothing is wanted
abbrev pub Wrong : List ℕ → ℕ → Want → Reason → Type 0
Wrong bs p form r = Misread bs p 1 1 r
Wrong bs p (count t) r = Misread bs p 0 (size t) r
Wrong bs p (entry t left lowest part) r = Misread bs p (field t lowest part).least (field t lowest part).most r
Wrong bs p nothing r = p < length bs

-- how the fault is told of a number of an entry
abbrev pub entry_told : Field → ℕ → Reason → EntryFault
entry_told f p (unread kind) = entryfault.Unread (record { place = p; kind = kind })
entry_told f p above = entryfault.Unfit p f.above
entry_told f p below = entryfault.Unfit p f.below

-- how the fault is told of a number outside the entries
abbrev pub outer_told : BookFault → ℕ → Reason → BookFault
outer_told x p (unread kind) = bookfault.Unread (record { place = p; kind = kind })
outer_told x p above = x
outer_told x p below = x

-- how the fault is told, by the number that was wanted
abbrev pub book_told : Want → ℕ → Reason → BookFault
book_told form p r = outer_told (bookfault.Form p) p r
book_told (count t) p r = outer_told (bookfault.Count p) p r
book_told (entry t left lowest part) p r = bookfault.Entry (entry_told (field t lowest part) p r)
book_told nothing p r = bookfault.Extra p

-- an entry's first fault: all before the place is as wanted, and the number there is not
pub record FirstInEntry (bs : List ℕ) (from : ℕ) (start : Want) (x : EntryFault) : Type 0 where
  pub before : List ℕ
  pub place : ℕ
  pub table : Table
  pub left : ℕ
  pub lowest : ℕ
  pub part : Part
  pub reason : Reason
  pub fair : Fair start before (entry table left lowest part)
  pub stands : Stands bs from (written before) place
  pub wrong : Wrong bs place (entry table left lowest part) reason
  pub told : x ≡ entry_told (field table lowest part) place reason

-- the first fault from a place on: all before it is as wanted, and what stands there is not
pub record FirstFrom (bs : List ℕ) (from : ℕ) (start : Want) (x : BookFault) : Type 0 where
  pub before : List ℕ
  pub place : ℕ
  pub want : Want
  pub reason : Reason
  pub fair : Fair start before want
  pub stands : Stands bs from (written before) place
  pub wrong : Wrong bs place want reason
  pub told : x ≡ book_told want place reason

-- the first fault of a book
abbrev pub FirstFault : List ℕ → BookFault → Type 0
FirstFault bs x = FirstFrom bs 0 form x
