-- What each call does to a profile. Assumes nothing.
use Rattle.std.specs.Prelude.{◌≡◌, None, Ok, Err, Result}
use Rattle.pegs.specs.Tables.{Edited, no_tables}
use Rattle.pegs.specs.declared.edit.Edit.{Edit}
use Rattle.pegs.specs.declared.edit.EditRefusal.{EditRefusal}
use Rattle.profile.specs.declared.profile.Profile.{Profile}

-- a new profile: nothing was ever edited or fitted
pub record New (p : Profile) : Type 0 where
  pub tables : p.tables ≡ no_tables
  pub fittings : p.fittings ≡ 0
  pub fitted : p.fitted ≡ None

-- nothing of a profile that a caller can see has changed
pub record Same (b a : Profile) : Type 0 where
  pub tables : a.tables ≡ b.tables
  pub fittings : a.fittings ≡ b.fittings
  pub fitted : a.fitted ≡ b.fitted

-- the tables are new, and the profile is unfitted; the count of fittings stays
pub record Unfitted (b a : Profile) : Type 0 where
  pub fittings : a.fittings ≡ b.fittings
  pub fitted : a.fitted ≡ None

-- an edit on a profile
abbrev pub Applied : Edit → Profile → Profile → Result (Unit {0}) EditRefusal → Type 0
Applied e b a (Ok u) = Edited e b.tables a.tables (Ok u) × Unfitted b a
Applied e b a (Err x) = Edited e b.tables a.tables (Err x) × Same b a
