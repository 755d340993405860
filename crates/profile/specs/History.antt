-- Histories of a profile: lists of calls, each with its answer. Assumes nothing.
use Rattle.std.specs.Prelude.{ℕ, List, [], ◌∷◌, ◌++◌, Result}
use Rattle.book.specs.declared.fault.BookFault.{BookFault}
use Rattle.pegs.specs.declared.edit.Edit.{Edit}
use Rattle.pegs.specs.declared.edit.EditRefusal.{EditRefusal}
use Rattle.profile.specs.declared.profile.Profile.{Profile}
use Rattle.profile.specs.Reading.{BookRead}
use Rattle.profile.specs.Steps.{Applied, New}

-- a call with its answer: an edit, or the bytes of a book
pub data Event : Type 0 where
  edited : Edit → Result (Unit {0}) EditRefusal → Event
  read : List ℕ → Result (Unit {0}) BookFault → Event

-- the call was answered as its contract says, and led from b to a
abbrev pub Answers : Event → Profile → Profile → Type 0
Answers (edited e r) b a = Applied e b a r
Answers (read bytes r) b a = BookRead bytes b a r

-- the calls of a history, oldest first, lead from a new profile to p
pub data Run : List Event → Profile → Type 0 where
  begins : (p : Profile) → New p → Run [] p
  goes : (h : List Event) (b : Profile) (e : Event) (a : Profile) → Run h b → Answers e b a → Run (h ++ (e ∷ [])) a
