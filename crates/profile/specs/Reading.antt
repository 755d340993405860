-- What reading and writing a book does. Assumes nothing.
use Rattle.std.specs.Prelude.{◌≡◌, ℕ, List, Ok, Err, Result}
use Rattle.pegs.specs.declared.tables.Tables.{Tables}
use Rattle.book.specs.Book.{encode}
use Rattle.book.specs.Sound.{Sound}
use Rattle.book.specs.Wanted.{FirstFault}
use Rattle.book.specs.declared.fault.BookFault.{BookFault}
use Rattle.profile.specs.declared.profile.Profile.{Profile}
use Rattle.profile.specs.Steps.{Same, Unfitted}

-- the bytes are the book of these pegs, fixed levels and sequence numbers
pub record IsBook (bytes : List ℕ) (t : Tables) : Type 0 where
  pub sound : Sound t
  pub written : bytes ≡ encode t

-- an accepted book replaces every peg, fixed level and remembered number; a refused one leaves the whole profile
abbrev pub BookRead : List ℕ → Profile → Profile → Result (Unit {0}) BookFault → Type 0
BookRead bytes b a (Ok u) = IsBook bytes a.tables × Unfitted b a
BookRead bytes b a (Err x) = FirstFault bytes x × Same b a

-- every book is accepted, and gives exactly what it was written from
abbrev pub ReadBack : List ℕ → Profile → Result (Unit {0}) BookFault → Type 0
ReadBack bytes a r = (t : Tables) → IsBook bytes t → (r ≡ Ok tt) × (a.tables ≡ t)

-- bytes with a fault are refused, and their first fault is told
abbrev pub FaultTold : List ℕ → Result (Unit {0}) BookFault → Type 0
FaultTold bytes r = (x : BookFault) → FirstFault bytes x → r ≡ Err x
