-- Faults of a book: their places, layers and numbers. Assumes nothing.
use Rattle.std.specs.Prelude.{ℕ}
use Rattle.pegs.specs.Edits.{edit_refusal_number}
use Rattle.pegs.specs.declared.edit.EditRefusal.TheVariants as edit
use Rattle.book.specs.declared.fault.NumberFault.{NumberFault}
use Rattle.book.specs.declared.fault.Misfit.{Misfit}
use Rattle.book.specs.declared.fault.Misfit.TheVariants.{NumberTooHigh, NotRising, SequenceZero, NoMark, StationTooHigh, LevelTooHigh, LowAboveHigh}
use Rattle.book.specs.declared.fault.EntryFault.{EntryFault}
use Rattle.book.specs.declared.fault.EntryFault.TheVariants as entryfault
use Rattle.book.specs.declared.fault.BookFault.{BookFault}
use Rattle.book.specs.declared.fault.BookFault.TheVariants as bookfault
use Rattle.book.specs.declared.fault.Layer.{Layer}
use Rattle.book.specs.declared.fault.Layer.TheVariants as layer

-- a number's fault as an entry's
abbrev pub of_number : NumberFault → EntryFault
of_number x = entryfault.Unread x

-- a number's fault as a book's
abbrev pub of_number_book : NumberFault → BookFault
of_number_book x = bookfault.Unread x

-- an entry's fault as a book's
abbrev pub of_entry : EntryFault → BookFault
of_entry x = bookfault.Entry x

-- a buffer shorter than its book is refused by this number
abbrev pub too_short_number : ℕ
too_short_number = 10

-- bytes that are no number are refused by this number
abbrev pub unread_number : ℕ
unread_number = 11

-- a book that isn't in its form is refused by this number
abbrev pub book_refusal_number : ℕ
book_refusal_number = 12

-- the number by which a misfit in an entry is told: an edit's, where an edit can have it too
abbrev pub misfit_number : Misfit → ℕ
misfit_number NumberTooHigh = edit_refusal_number edit.NumberTooHigh
misfit_number NotRising = book_refusal_number
misfit_number SequenceZero = edit_refusal_number edit.SequenceZero
misfit_number NoMark = book_refusal_number
misfit_number StationTooHigh = edit_refusal_number edit.StationTooHigh
misfit_number LevelTooHigh = edit_refusal_number edit.LevelTooHigh
misfit_number LowAboveHigh = edit_refusal_number edit.LowAboveHigh

-- the number by which an entry's fault is told
abbrev pub entry_fault_number : EntryFault → ℕ
entry_fault_number (entryfault.Unread x) = unread_number
entry_fault_number (entryfault.Unfit p m) = misfit_number m

-- the number by which a book's fault is told
abbrev pub book_fault_number : BookFault → ℕ
book_fault_number (bookfault.Unread x) = unread_number
book_fault_number (bookfault.Entry x) = entry_fault_number x
book_fault_number (bookfault.Form p) = book_refusal_number
book_fault_number (bookfault.Count p) = book_refusal_number
book_fault_number (bookfault.Extra p) = book_refusal_number

-- the byte place of an entry's fault
abbrev pub entry_place : EntryFault → ℕ
entry_place (entryfault.Unread x) = x.place
entry_place (entryfault.Unfit p m) = p

-- the byte place of a book's fault
abbrev pub book_place : BookFault → ℕ
book_place (bookfault.Unread x) = x.place
book_place (bookfault.Entry x) = entry_place x
book_place (bookfault.Form p) = p
book_place (bookfault.Count p) = p
book_place (bookfault.Extra p) = p

-- the layer in which an entry's fault arose
abbrev pub entry_layer : EntryFault → Layer
entry_layer (entryfault.Unread x) = layer.Number
entry_layer (entryfault.Unfit p m) = layer.Entry

-- the layer in which a book's fault arose
abbrev pub book_layer : BookFault → Layer
book_layer (bookfault.Unread x) = layer.Number
book_layer (bookfault.Entry x) = entry_layer x
book_layer (bookfault.Form p) = layer.Book
book_layer (bookfault.Count p) = layer.Book
book_layer (bookfault.Extra p) = layer.Book
