-- One number after the other. Assumes nothing.
use Rattle.std.proofs.Common.{◌≡◌, ℕ, ◌^◌, ◌<◌, ◌≤◌, List, [], ◌∷◌, ◌++◌, length, Err, sym, refl, ap, ◌∙◌, append_assoc, arith, lit<, length-append}
use Rattle.std.proofs.lemmas.List.{append-nil}
use Rattle.book.specs.declared.cursor.Cursor.{Cursor}
use Rattle.book.specs.declared.entry.Table.{Table}
use Rattle.book.specs.declared.entry.Table.TheVariants.{Pegs, Fixed}
use Rattle.book.specs.declared.fault.BookFault.{BookFault}
use Rattle.book.specs.declared.fault.BookFault.TheVariants as bookfault
use Rattle.book.specs.declared.fault.EntryFault.{EntryFault}
use Rattle.book.specs.declared.fault.NumberFault.{NumberFault}
use Rattle.book.specs.declared.fault.NumberKind.{NumberKind}
use Rattle.book.specs.Book.{written}
use Rattle.book.specs.Numbers.{NoNumber, number, Passed, Stands}
use Rattle.book.specs.Reading.{Fielded, InRange}
use Rattle.book.specs.Wanted.{Part, entry_number, sequence, mark, station, level, low_bound, high_bound, Reason, Want, entry, field, least, most, after, after_part, Fair, FirstFrom, FirstInEntry, Wrong, book_told, unread}

pub written-append : (ns ms : List ℕ) → written (ns ++ ms) ≡ written ns ++ written ms
unfolding written
written-append [] ms = refl
written-append (n ∷ ns) ms = rw (written-append ns ms, append_assoc) refl

pub written_one : (n : ℕ) → written (n ∷ []) ≡ number n
unfolding written
written_one n = append-nil (number n)

pub stands_none : (bs : List ℕ) (p : ℕ) → p ≤ length bs → Stands bs p (written []) p
unfolding written
stands_none bs p h = record { bytes = refl; end = omega arith; within = h }

pub stands_join : (bs : List ℕ) (a b c : ℕ) (xs ys : List ℕ) → Stands bs a xs b → Stands bs b ys c → Stands bs a (xs ++ ys) c
stands_join bs a b c xs ys s t =
    record { bytes = s.bytes ∙ rw (t.bytes, append_assoc) refl; end = rw length-append (omega (arith, s.end, t.end)); within = t.within }

pub passed_join : {a b c : Cursor} {xs ys : List ℕ} → Passed a b xs → Passed b c ys → Passed a c (xs ++ ys)
passed_join {a} {b} {c} {xs} {ys} p q = record { same = q.same ∙ p.same; stands = stands_join a.bytes.now a.at b.at c.at xs ys p.stands (rw p.same at q.stands) }

pub passed_both : {a b c : Cursor} (ns ms : List ℕ) → Passed a b (written ns) → Passed b c (written ms) → Passed a c (written (ns ++ ms))
passed_both ns ms p q = rw (written-append ns ms) (passed_join p q)

pub passed_one : {a b : Cursor} (n : ℕ) → Passed a b (number n) → Passed a b (written (n ∷ []))
passed_one n p = rw (written_one n) p

pub passed_cons : {a b c : Cursor} (n : ℕ) (ns : List ℕ) → Passed a b (number n) → Passed b c (written ns) → Passed a c (written (n ∷ ns))
unfolding written
passed_cons n ns p q = passed_join p q

pub fair_join : (w : Want) (ns : List ℕ) (v : Want) (ms : List ℕ) (u : Want) → Fair w ns v → Fair v ms u → Fair w (ns ++ ms) u
unfolding Fair
fair_join w [] v ms u f g = rw f g
fair_join w (n ∷ ns) v ms u f g = (f.0, f.1, f.2, fair_join (after w n) ns v ms u f.3 g)

pub fair_one : (w : Want) (n : ℕ) → least w ≤ n → n ≤ most w → n < 2 ^ 32 → Fair w (n ∷ []) (after w n)
unfolding Fair
fair_one w n a b h = (a, b, h, refl)

pub fair_none : (w : Want) → Fair w [] w
unfolding Fair
fair_none w = refl

-- numbers from a cursor to another are as wanted
pub record Way (a : Cursor) (w : Want) (b : Cursor) (v : Want) : Type 0 where
  pub numbers : List ℕ
  pub fair : Fair w numbers v
  pub passed : Passed a b (written numbers)

pub way_one : {a b : Cursor} (w : Want) (n : ℕ) → Passed a b (number n) → least w ≤ n → n ≤ most w → n < 2 ^ 32 → Way a w b (after w n)
way_one w n p lo hi h = record { numbers = n ∷ []; fair = fair_one w n lo hi h; passed = passed_one n p }

pub way_join : {a b c : Cursor} {w v u : Want} → Way a w b v → Way b v c u → Way a w c u
way_join {w = w} {v = v} {u = u} x y =
    record {
      numbers = x.numbers ++ y.numbers;
      fair = fair_join w x.numbers v y.numbers u x.fair y.fair;
      passed = passed_both x.numbers y.numbers x.passed y.passed;
    }

-- numbers from a cursor to a place of its bytes, after a way
along : {a b : Cursor} {w v : Want} (y : Way a w b v) (ms : List ℕ) (p : ℕ) → Stands b.bytes.now b.at (written ms) p → Stands a.bytes.now a.at (written (y.numbers ++ ms)) p
along {a} {b} y ms p s =
    rw (written-append y.numbers ms) (stands_join a.bytes.now a.at b.at p (written y.numbers) (written ms) y.passed.stands (rw y.passed.same at s))

-- a first fault after a way is the first from the way's start
pub after_way : {a b : Cursor} {w v : Want} {x : BookFault} → Way a w b v → FirstFrom b.bytes.now b.at v x → FirstFrom a.bytes.now a.at w x
after_way {w = w} {v = v} y f =
    record {
      before = y.numbers ++ f.before;
      place = f.place;
      want = f.want;
      reason = f.reason;
      fair = fair_join w y.numbers v f.before f.want y.fair f.fair;
      stands = along y f.before f.place f.stands;
      wrong = rw y.passed.same at f.wrong;
      told = f.told;
    }

pub after_way_in : {a b : Cursor} {w v : Want} {x : EntryFault} → Way a w b v → FirstInEntry b.bytes.now b.at v x → FirstInEntry a.bytes.now a.at w x
after_way_in {w = w} {v = v} y f =
    record {
      before = y.numbers ++ f.before;
      place = f.place;
      table = f.table;
      left = f.left;
      lowest = f.lowest;
      part = f.part;
      reason = f.reason;
      fair = fair_join w y.numbers v f.before (entry f.table f.left f.lowest f.part) y.fair f.fair;
      stands = along y f.before f.place f.stands;
      wrong = rw y.passed.same at f.wrong;
      told = f.told;
    }

-- an entry's first fault is a book's
pub in_book : (bs : List ℕ) (a : ℕ) (w : Want) (x : EntryFault) → FirstInEntry bs a w x → FirstFrom bs a w (bookfault.Entry x)
in_book bs a w x f =
    record {
      before = f.before;
      place = f.place;
      want = entry f.table f.left f.lowest f.part;
      reason = f.reason;
      fair = f.fair;
      stands = f.stands;
      wrong = f.wrong;
      told = ap bookfault.Entry f.told;
    }

-- what is wrong at once
pub at_once : (bs : List ℕ) (p : ℕ) (w : Want) (r : Reason) (x : BookFault) → p ≤ length bs → Wrong bs p w r → x ≡ book_told w p r → FirstFrom bs p w x
at_once bs p w r x h g e = record { before = []; place = p; want = w; reason = r; fair = fair_none w; stands = stands_none bs p h; wrong = g; told = e }

-- no number at all
pub unread_at : (a : Cursor) (w : Want) (x : NumberFault) → ((k : NumberKind) → NoNumber a.bytes.now a.at k → Wrong a.bytes.now a.at w (unread k)) → ((k : NumberKind) → book_told w a.at (unread k) ≡ bookfault.Unread (record { place = a.at; kind = k }))
    → (x.place ≡ a.at) × NoNumber a.bytes.now a.at x.kind → FirstFrom a.bytes.now a.at w (bookfault.Unread x)
unread_at a w x wrong told e = at_once a.bytes.now a.at w (unread x.kind) (bookfault.Unread x) a.within (wrong x.kind e.1) (ap bookfault.Unread (λ i. record { place = e.0 i; kind = x.kind }) ∙ sym (told x.kind))

most_small : (t : Table) (lowest : ℕ) (part : Part) → (field t lowest part).most < 2 ^ 32
most_small Pegs lowest entry_number = lit< tt
most_small Fixed lowest entry_number = lit< tt
most_small t lowest sequence = lit< tt
most_small t lowest mark = lit< tt
most_small t lowest station = lit< tt
most_small t lowest level = lit< tt
most_small t lowest low_bound = lit< tt
most_small t lowest (high_bound bound) = lit< tt

-- a number of an entry that is not as wanted
pub misfit : (a b : Cursor) (t : Table) (left lowest : ℕ) (part : Part) (x : EntryFault) → Fielded a (field t lowest part) b (Err x) → FirstInEntry a.bytes.now a.at (entry t left lowest part) x
misfit a b t left lowest part x e =
    record {
      before = [];
      place = a.at;
      table = t;
      left = left;
      lowest = lowest;
      part = part;
      reason = e.0;
      fair = fair_none (entry t left lowest part);
      stands = stands_none a.bytes.now a.at a.within;
      wrong = e.1;
      told = e.2;
    }

-- and one that is
pub way_field : {a b : Cursor} (t : Table) (left lowest : ℕ) (part : Part) {n : ℕ} → InRange a b (field t lowest part).least (field t lowest part).most n → Way a (entry t left lowest part) b (after_part t left lowest part n)
way_field t left lowest part {n} i = way_one (entry t left lowest part) n i.passed i.above i.below (omega (arith, i.below, most_small t lowest part))
