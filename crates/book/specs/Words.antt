-- What `{}` prints of a fault. Assumes nothing.
use Rattle.std.specs.Prelude.{ℕ, List, codes}
use Rattle.book.specs.declared.fault.NumberKind.{NumberKind}
use Rattle.book.specs.declared.fault.NumberKind.TheVariants.{Cut, Long, Large}
use Rattle.book.specs.declared.fault.Misfit.{Misfit}
use Rattle.book.specs.declared.fault.Misfit.TheVariants.{NumberTooHigh, NotRising, SequenceZero, NoMark, StationTooHigh, LevelTooHigh, LowAboveHigh}
use Rattle.book.specs.declared.fault.EntryFault.{EntryFault}
use Rattle.book.specs.declared.fault.EntryFault.TheVariants as entryfault
use Rattle.book.specs.declared.fault.BookFault.{BookFault}
use Rattle.book.specs.declared.fault.BookFault.TheVariants as bookfault
use Rattle.book.specs.declared.fault.Layer.{Layer}
use Rattle.book.specs.declared.fault.Layer.TheVariants as layer

-- the words of why no number can be read
abbrev pub number_words : NumberKind → List ℕ
number_words Cut = codes "the bytes end within a number, or before it"
number_words Long = codes "a number is not in its shortest form"
number_words Large = codes "a number is above 4294967295"

-- the words of a misfit in an entry
abbrev pub misfit_words : Misfit → List ℕ
misfit_words NumberTooHigh = codes "an entry's number is above 39 for a peg, 15 for a fixed level"
misfit_words NotRising = codes "an entry's number is not above the one before"
misfit_words SequenceZero = codes "a sequence number is 0"
misfit_words NoMark = codes "a mark is neither 0 nor 1"
misfit_words StationTooHigh = codes "a station is above 10000 m"
misfit_words LevelTooHigh = codes "a level is above 9000000 mm"
misfit_words LowAboveHigh = codes "a low bound is above the high one"

-- the words of an entry's fault
abbrev pub entry_words : EntryFault → List ℕ
entry_words (entryfault.Unread x) = number_words x.kind
entry_words (entryfault.Unfit p m) = misfit_words m

-- the words of a book's fault
abbrev pub book_words : BookFault → List ℕ
book_words (bookfault.Unread x) = number_words x.kind
book_words (bookfault.Entry x) = entry_words x
book_words (bookfault.Form p) = codes "the form number is not 1"
book_words (bookfault.Count p) = codes "a count is above 40 for pegs, 16 for fixed levels"
book_words (bookfault.Extra p) = codes "bytes are left over after the last entry"

-- the words of a layer
abbrev pub layer_words : Layer → List ℕ
layer_words layer.Number = codes "number"
layer_words layer.Entry = codes "entry"
layer_words layer.Book = codes "book"
