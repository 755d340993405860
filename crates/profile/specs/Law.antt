-- What stands on a profile after any history of calls. Assumes nothing.
use Rattle.std.specs.Prelude.{◌≡◌, ℕ, ◌<◌, ◌≤◌, ◌⊎◌, List, [], ◌∷◌, ◌++◌, Some, None, Ok, Err, Option}
use Rattle.std.specs.List.{AllByRecursion}
use Rattle.pegs.specs.Edits.{WellFormed, sequence}
use Rattle.pegs.specs.Tables.{fixed_slot, peg_slot}
use Rattle.pegs.specs.declared.edit.Edit.{Edit}
use Rattle.pegs.specs.declared.edit.Edit.TheVariants.{Place, Lift, Fix, Clear}
use Rattle.pegs.specs.declared.peg.FixedLevel.{FixedLevel}
use Rattle.pegs.specs.declared.peg.Peg.{Peg}
use Rattle.pegs.specs.declared.tables.Tables.{Tables}
use Rattle.profile.specs.declared.profile.Profile.{Profile}
use Rattle.profile.specs.Entries.{entries}
use Rattle.profile.specs.History.{Event, Run, edited, read}
use Rattle.profile.specs.Reading.{IsBook}

-- the call was a book, and it was accepted
abbrev pub TookBook : Event → Type 0
TookBook (edited e r) = ⊥
TookBook (read bytes (Ok u)) = Unit {0}
TookBook (read bytes (Err x)) = ⊥

-- no book was accepted
abbrev pub Bookless : List Event → Type 0
Bookless h = AllByRecursion (λ e. TookBook e → ⊥) h

-- the edits of a history, taken or refused
abbrev pub edits : List Event → List Edit
edits [] = []
edits (edited e r ∷ h) = e ∷ edits h
edits (read bytes r ∷ h) = edits h

-- a history cut at its last accepted book: that book's entries first, then the edits after it
pub record LastBook (h : List Event) (log : List Edit) : Type 0 where
  pub before : List Event
  pub bytes : List ℕ
  pub contents : Tables
  pub after : List Event
  pub cut : h ≡ before ++ (read bytes (Ok tt) ∷ after)
  pub book : IsBook bytes contents
  pub no_later : Bookless after
  pub said : log ≡ entries contents ++ edits after

-- the edits that count: those since the last accepted book, its entries first; all where there was none
abbrev pub Since : List Event → List Edit → Type 0
Since h log = (Bookless h × (log ≡ edits h)) ⊎ LastBook h log

-- of the edits that count, e has the highest sequence number, and of equal ones is the earliest
pub record Highest (Counts : Edit → Type 0) (log : List Edit) (e : Edit) : Type 0 where
  pub before : List Edit
  pub after : List Edit
  pub cut : log ≡ before ++ (e ∷ after)
  pub counts : Counts e
  pub above : AllByRecursion (λ x. Counts x → sequence x < sequence e) before
  pub not_below : AllByRecursion (λ x. Counts x → sequence x ≤ sequence e) after

-- what is held is as the highest-numbered edit that counts said, and nothing without one
abbrev pub AsSaid : {V : Type 0} → (Edit → Type 0) → (Edit → Option V) → List Edit → Option V → Type 0
AsSaid Counts said log v = (AllByRecursion (λ x. Counts x → ⊥) log × (v ≡ None)) ⊎ ((e : Edit) × Highest Counts log e × (v ≡ said e))

-- a well-formed edit of the peg n
abbrev pub OfPeg : ℕ → Edit → Type 0
OfPeg n (Place m s st l) = (m ≡ n) × WellFormed (Place m s st l)
OfPeg n (Lift m s) = (m ≡ n) × WellFormed (Lift m s)
OfPeg n (Fix m s st l h) = ⊥
OfPeg n (Clear m s) = ⊥

-- the peg that an edit leaves
abbrev pub peg_said : Edit → Option Peg
peg_said (Place m s st l) = Some (record { station = st; level = l })
peg_said (Lift m s) = None
peg_said (Fix m s st l h) = None
peg_said (Clear m s) = None

-- a well-formed edit of the fixed level n
abbrev pub OfFixed : ℕ → Edit → Type 0
OfFixed n (Place m s st l) = ⊥
OfFixed n (Lift m s) = ⊥
OfFixed n (Fix m s st l h) = (m ≡ n) × WellFormed (Fix m s st l h)
OfFixed n (Clear m s) = (m ≡ n) × WellFormed (Clear m s)

-- the fixed level that an edit leaves
abbrev pub fixed_said : Edit → Option FixedLevel
fixed_said (Place m s st l) = None
fixed_said (Lift m s) = None
fixed_said (Fix m s st l h) = Some (record { station = st; low = l; high = h })
fixed_said (Clear m s) = None

-- after the history h the profile p is as the edits since the last accepted book said
pub record AsEdited (h : List Event) (p : Profile) : Type 0 where
  pub log : List Edit
  pub since : Since h log
  pub pegs : (n : ℕ) → AsSaid (OfPeg n) peg_said log (peg_slot p.tables n).held
  pub fixed : (n : ℕ) → AsSaid (OfFixed n) fixed_said log (fixed_slot p.tables n).held

-- the promise: after every history of calls on a profile that was made empty, it is as its edits said
abbrev pub StandsAsEdited : Type 0
StandsAsEdited = (h : List Event) (p : Profile) → Run h p → AsEdited h p

-- the edit is one of the log
pub record Among (e : Edit) (log : List Edit) : Type 0 where
  pub before : List Edit
  pub after : List Edit
  pub cut : log ≡ before ++ (e ∷ after)

-- the same well-formed edits, in whatever order and however often
abbrev pub SameEdits : List Edit → List Edit → Type 0
SameEdits log other = (e : Edit) → WellFormed e → (Among e log → Among e other) × (Among e other → Among e log)

-- no two edits of one peg or fixed level have one sequence number
pub record Distinct (log : List Edit) : Type 0 where
  pub pegs : (n : ℕ) (x y : Edit) → Among x log → Among y log → OfPeg n x → OfPeg n y → sequence x ≡ sequence y → x ≡ y
  pub fixed : (n : ℕ) (x y : Edit) → Among x log → Among y log → OfFixed n x → OfFixed n y → sequence x ≡ sequence y → x ≡ y

-- the same pegs, fixed levels and remembered numbers
pub record SameSlots (p q : Profile) : Type 0 where
  pub pegs : (n : ℕ) → peg_slot p.tables n ≡ peg_slot q.tables n
  pub fixed : (n : ℕ) → fixed_slot p.tables n ≡ fixed_slot q.tables n

-- two lists with the same well-formed edits in another order, all numbers of a slot distinct, leave the same profile
abbrev pub AnyOrder : Type 0
AnyOrder = (h k : List Event) (p q : Profile) → Run h p → Run k q → Bookless h → Bookless k → SameEdits (edits h) (edits k) → Distinct (edits h) → SameSlots p q
