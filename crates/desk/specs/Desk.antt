-- What a call does to the desk of a job, and what it answers. Assumes nothing.
use Rattle.std.specs.Prelude.{◌≡◌, ℕ, ◌%◌, ◌<◌, ◌≤◌, ◌⊎◌, List, [], ◌∷◌, ◌++◌, length, ℤ, Some, None, Ok, Err, vec_items, Result, IsSomeAnd, MatchOption, MatchResult}
use Rattle.pegs.specs.Tables.{fixed_slot, peg_slot}
use Rattle.pegs.specs.declared.edit.Edit.{Edit}
use Rattle.pegs.specs.declared.edit.Edit.TheVariants as edit
use Rattle.pegs.specs.declared.edit.EditRefusal.{EditRefusal}
use Rattle.pegs.specs.declared.tables.Tables.{Tables}
use Rattle.book.specs.Book.{encode}
use Rattle.book.specs.declared.fault.BookFault.{BookFault}
use Rattle.profile.specs.Reading.{BookRead}
use Rattle.profile.specs.Steps.{Applied, New}
use Rattle.rules.specs.Irc.{irc_curve, irc_grade, IrcRefused}
use Rattle.rules.specs.Points.{PointsRefused, PointsSound, rise, run}
use Rattle.rules.specs.Roads.{Named}
use Rattle.rules.specs.Shortest.{NonePasses, ShortestPassing}
use Rattle.rules.specs.Speeds.{asked, design_speed}
use Rattle.rules.specs.Stricter.{stricter_of}
use Rattle.rules.specs.Tables.{Lawful, TableRefused, table_curve, table_grade}
use Rattle.rules.specs.Told.{Told}
use Rattle.rules.specs.Turns.{bend_of}
use Rattle.rules.specs.declared.point.Point.{Point}
use Rattle.rules.specs.declared.refusal.Refusal.{Refusal}
use Rattle.rules.specs.declared.refusal.Refusal.TheVariants.{LengthOutOfStep}
use Rattle.rules.specs.declared.road.RoadFigures.{RoadFigures}
use Rattle.rules.specs.declared.table.Row.{Row}
use Rattle.rules.specs.declared.turn.Bend.{Bend}
use Rattle.desk.specs.declared.answer.Answer.{Answer}
use Rattle.desk.specs.declared.answer.Answer.TheVariants as answer
use Rattle.desk.specs.declared.answer.Stands.{Stands}
use Rattle.desk.specs.declared.answer.Stands.TheVariants as stands
use Rattle.desk.specs.declared.call.Call.{Call}
use Rattle.desk.specs.declared.call.Call.TheVariants as call
use Rattle.desk.specs.declared.call.Choice.{Choice}
use Rattle.desk.specs.declared.call.Choice.TheVariants as choice
use Rattle.desk.specs.declared.call.Inquiry.{Inquiry}
use Rattle.desk.specs.declared.call.Inquiry.TheVariants as inquiry
use Rattle.desk.specs.declared.desk.Desk.{Desk}
use Rattle.desk.specs.declared.desk.KeptTable.{KeptTable}
use Rattle.desk.specs.declared.answer.Missing.{Missing}
use Rattle.desk.specs.declared.answer.Missing.TheVariants as missing

-- why a curve is not judged: its points first, then its length
abbrev pub CurveRefused : List Point → ℕ → Refusal → Type 0
CurveRefused ps l e = PointsRefused ps e ⊎ (PointsSound ps × (e ≡ LengthOutOfStep) × (l % 5 ≡ 0 → l ≤ 2000 → ⊥))

-- a verdict, and the code that it is by
abbrev pub VerdictTold : ℕ → Choice → Answer → Type 0
VerdictTold verdict by (answer.Verdict v) = Told verdict v.told × (v.by ≡ by)
VerdictTold verdict by _ = ⊥

-- the shortest length that passes, or that none does
abbrev pub ShortestTold : (ℕ → ℕ) → Answer → Type 0
ShortestTold verdict (answer.Shortest (Ok l)) = ShortestPassing verdict l.metres
ShortestTold verdict (answer.Shortest (Err none)) = NonePasses verdict × (none.clause.number ≡ verdict 2000)
ShortestTold verdict _ = ⊥

-- what a code with these verdicts answers to an inquiry
abbrev pub Answers : (grade : ℤ → ℕ → ℕ) (curve : Bend → ℕ → ℕ) → Choice → Inquiry → Result Answer Refusal → Type 0
Answers grade curve by (inquiry.Grade p q) r =
    MatchResult r (λ a. PointsSound (p ∷ (q ∷ [])) × VerdictTold (grade (rise p q) (run p q)) by a) (λ e. PointsRefused (p ∷ (q ∷ [])) e)
Answers grade curve by (inquiry.Curve p q s l) r =
    MatchResult r (λ a. PointsSound (p ∷ (q ∷ (s ∷ []))) × VerdictTold (curve (bend_of p q s) l) by a) (λ e. CurveRefused (p ∷ (q ∷ (s ∷ []))) l e)
Answers grade curve by (inquiry.Shortest p q s) r =
    MatchResult r (λ a. PointsSound (p ∷ (q ∷ (s ∷ []))) × ShortestTold (curve (bend_of p q s)) a) (λ e. PointsRefused (p ∷ (q ∷ (s ∷ []))) e)

-- an answer, or what stands against one, told as one
abbrev pub told_of : {E : Type 0} → (E → Answer) → Result Answer E → Answer
told_of tell (Ok a) = a
told_of tell (Err e) = tell e

-- what is told of an inquiry by a code with these verdicts
abbrev pub ToldBy : (grade : ℤ → ℕ → ℕ) (curve : Bend → ℕ → ℕ) → Choice → Inquiry → Result Answer Missing → Type 0
ToldBy grade curve by q r = (s : Result Answer Refusal) × Answers grade curve by q s × (r ≡ Ok (told_of answer.Refused s))

-- the verdicts of an accepted table
abbrev pub kept_grade : KeptTable → ℤ → ℕ → ℕ
kept_grade t = table_grade t.bound t.clause

abbrev pub kept_curve : KeptTable → Bend → ℕ → ℕ
kept_curve t = table_curve (vec_items t.rows)

-- the inquiry goes to the code that the choice names; of two codes to the stricter, in that order
abbrev pub AskedBy : Desk → Choice → Inquiry → Result Answer Missing → Type 0
AskedBy d choice.Irc q r = MatchOption d.irc (r ≡ Err missing.Irc) (λ c. ToldBy (irc_grade c.road) (irc_curve c.road) choice.Irc q r)
AskedBy d choice.Table q r = MatchOption d.table (r ≡ Err missing.Table) (λ t. ToldBy (kept_grade t) (kept_curve t) choice.Table q r)
AskedBy d choice.IrcThenTable q r =
    MatchOption d.irc (r ≡ Err missing.Irc) (λ c. MatchOption d.table (r ≡ Err missing.Table) (λ t.
    ToldBy (stricter_of (irc_grade c.road) (kept_grade t)) (stricter_of (irc_curve c.road) (kept_curve t)) choice.IrcThenTable q r))
AskedBy d choice.TableThenIrc q r =
    MatchOption d.table (r ≡ Err missing.Table) (λ t. MatchOption d.irc (r ≡ Err missing.Irc) (λ c.
    ToldBy (stricter_of (kept_grade t) (irc_grade c.road)) (stricter_of (kept_curve t) (irc_curve c.road)) choice.TableThenIrc q r))

-- an inquiry to the code in use
abbrev pub Inquired : Desk → Inquiry → Answer → Type 0
Inquired d q a = MatchOption d.choice (a ≡ answer.Missing missing.Code) (λ c. (r : Result Answer Missing) × AskedBy d c q r × (a ≡ told_of answer.Missing r))

-- a desk with nothing on it
pub record Empty (d : Desk) : Type 0 where
  pub profile : New d.profile
  pub irc : d.irc ≡ None
  pub rows : vec_items d.rows ≡ []
  pub table : d.table ≡ None
  pub choice : d.choice ≡ None

-- the same things on the desk
pub record AsItWas (d d' : Desk) : Type 0 where
  pub profile : d'.profile ≡ d.profile
  pub irc : d'.irc ≡ d.irc
  pub rows : vec_items d'.rows ≡ vec_items d.rows
  pub table : d'.table ≡ d.table
  pub choice : d'.choice ≡ d.choice

-- a code of the standard, or the refusal and the desk as it was
abbrev pub IrcMade : Desk → RoadFigures → Desk → Answer → Type 0
IrcMade d f d' (answer.Road s) = IsSomeAnd d'.irc (λ c. Named f c.road × (s ≡ asked (design_speed c.road))) × (d' ≡ record d { irc = d'.irc })
IrcMade d f d' (answer.Refused e) = IrcRefused f e × (d' ≡ d)
IrcMade d f d' _ = ⊥

-- one row more
pub record RowAdded (d : Desk) (row : Row) (d' : Desk) (a : Answer) : Type 0 where
  pub rows : vec_items d'.rows ≡ vec_items d.rows ++ (row ∷ [])
  pub told : a ≡ answer.Rows (length (vec_items d'.rows))
  pub profile : d'.profile ≡ d.profile
  pub irc : d'.irc ≡ d.irc
  pub table : d'.table ≡ d.table
  pub choice : d'.choice ≡ d.choice

-- a table of the rows, or the refusal and the table as it was
abbrev pub TableOutcome : Desk → (bound clause : ℕ) → Desk → Answer → Type 0
TableOutcome d bound clause d' (answer.Table n) =
    IsSomeAnd d'.table (λ t. Lawful (vec_items d.rows) bound clause × (vec_items t.rows ≡ vec_items d.rows) × (t.bound ≡ bound) × (t.clause ≡ clause))
    × (n ≡ length (vec_items d.rows))
TableOutcome d bound clause d' (answer.Refused e) = TableRefused (vec_items d.rows) bound clause e × (d'.table ≡ d.table)
TableOutcome d bound clause d' _ = ⊥

-- taken or refused, a table ends the list of rows
pub record TableMade (d : Desk) (bound clause : ℕ) (d' : Desk) (a : Answer) : Type 0 where
  pub outcome : TableOutcome d bound clause d' a
  pub profile : d'.profile ≡ d.profile
  pub rows : vec_items d'.rows ≡ []
  pub irc : d'.irc ≡ d.irc
  pub choice : d'.choice ≡ d.choice

-- the codes that a choice names are there, or which one is not
abbrev pub There : Desk → Choice → Result Choice Missing → Type 0
There d choice.Irc r = MatchOption d.irc (r ≡ Err missing.Irc) (λ _. r ≡ Ok choice.Irc)
There d choice.Table r = MatchOption d.table (r ≡ Err missing.Table) (λ _. r ≡ Ok choice.Table)
There d choice.IrcThenTable r = MatchOption d.irc (r ≡ Err missing.Irc) (λ _. MatchOption d.table (r ≡ Err missing.Table) (λ _. r ≡ Ok choice.IrcThenTable))
There d choice.TableThenIrc r = MatchOption d.table (r ≡ Err missing.Table) (λ _. MatchOption d.irc (r ≡ Err missing.Irc) (λ _. r ≡ Ok choice.TableThenIrc))

-- a choice in use, or what is missing and the desk as it was
abbrev pub Chosen : Desk → Choice → Desk → Answer → Type 0
Chosen d c d' (answer.InUse c') = There d c (Ok c) × (c' ≡ c) × (d' ≡ record d { choice = Some c })
Chosen d c d' (answer.Missing m) = There d c (Err m) × (d' ≡ d)
Chosen d c d' _ = ⊥

-- what stands under the number that an edit names
abbrev pub stands_of : Edit → Tables → Stands
stands_of (edit.Place n s st l) t = stands.Peg n (peg_slot t n).held
stands_of (edit.Lift n s) t = stands.Peg n (peg_slot t n).held
stands_of (edit.Fix n s st l h) t = stands.Fixed n (fixed_slot t n).held
stands_of (edit.Clear n s) t = stands.Fixed n (fixed_slot t n).held

-- the profile moves by the edit, taken or refused, and all else stays
pub record EditMade (d : Desk) (e : Edit) (d' : Desk) (a : Answer) : Type 0 where
  pub reply : Result (Unit {0}) EditRefusal
  pub profile : Applied e d.profile d'.profile reply
  pub told : a ≡ answer.Edited (record { outcome = reply; stands = stands_of e d'.profile.tables })
  pub rest : d' ≡ record d { profile = d'.profile }

-- the bytes of the book, where the buffer is long enough for them
abbrev pub BookTold : Tables → ℕ → Answer → Type 0
BookTold t size (answer.Book (Ok v)) = (vec_items v ≡ encode t) × (length (encode t) ≤ size)
BookTold t size (answer.Book (Err _)) = size < length (encode t)
BookTold t size _ = ⊥

-- the profile moves by the book, accepted or refused, and all else stays
pub record ReadMade (d : Desk) (bytes : List ℕ) (d' : Desk) (a : Answer) : Type 0 where
  pub reply : Result (Unit {0}) BookFault
  pub profile : BookRead bytes d.profile d'.profile reply
  pub told : a ≡ answer.BookRead reply
  pub rest : d' ≡ record d { profile = d'.profile }

-- what a call does to the desk, and what it answers
abbrev pub Made : Desk → Call → Desk → Answer → Type 0
Made d call.New d' a = Empty d' × (a ≡ answer.Begun)
Made d (call.Irc f) d' a = IrcMade d f d' a
Made d (call.Row row) d' a = RowAdded d row d' a
Made d (call.Table bound clause) d' a = TableMade d bound clause d' a
Made d (call.Use c) d' a = Chosen d c d' a
Made d (call.Ask q) d' a = Inquired d q a × (d' ≡ d)
Made d (call.Edit e) d' a = EditMade d e d' a
Made d (call.Book size) d' a = BookTold d.profile.tables size a × (d' ≡ d)
Made d (call.Read v) d' a = ReadMade d (vec_items v) d' a
