-- The numbers of sound tables are as wanted, and no two sound tables have one book. Assumes nothing.
use Rattle.std.proofs.Common.{◌≡◌, ℕ, suc, ◌+◌, ◌<◌, ◌≤◌, List, [], ◌∷◌, ◌++◌, length, drop, Some, None, Option, sym, refl, ap, ◌∙◌, ⊎_elim, append_assoc, arith, lit<, lit≤}
use Rattle.std.proofs.lemmas.Bool.{ne_eqb, eq-eqb, cases_eq}
use Rattle.std.proofs.lemmas.List.{append-nil, drop_all}
use Rattle.pegs.specs.Slots.{untouched}
use Rattle.pegs.specs.declared.peg.FixedLevel.{FixedLevel}
use Rattle.pegs.specs.declared.peg.Peg.{Peg}
use Rattle.pegs.specs.declared.slot.Slot.{Slot}
use Rattle.pegs.specs.declared.tables.Tables.{Tables}
use Rattle.book.specs.declared.cursor.Cursor.{Cursor}
use Rattle.book.specs.declared.entry.Table.{Table}
use Rattle.book.specs.declared.entry.Table.TheVariants.{Pegs, Fixed}
use Rattle.book.specs.declared.fault.BookFault.TheVariants as bookfault
use Rattle.book.specs.Book.{OneBook, book_numbers, edited, encode, entries, entry_numbers, fixed_figures, marked_figures, peg_figures, table_numbers, written}
use Rattle.book.specs.Figures.{fair_fixed, fair_peg}
use Rattle.book.specs.Numbers.{number, Passed}
use Rattle.book.specs.Reading.{TableRead}
use Rattle.book.specs.Sound.{GoodFixed, GoodPeg, Sound, SoundSlots}
use Rattle.book.specs.Wanted.{Fair, FirstFrom, Want, above, after, count, entry, entry_number, form, next_entry, next_table, nothing, size, station}
use Rattle.book.proofs.Apart.{number_apart}
use Rattle.book.proofs.Paths.{Way, after_way, at_once, fair_join, passed_both, passed_cons, way_join, way_one}
use Rattle.book.proofs.Slots.{fair_entry, few, no_more}

pub sound_rest : {T : Type 0} (Good : T → Type 0) (s : Slot T) (ss : List (Slot T)) → SoundSlots Good (s ∷ ss) → SoundSlots Good ss
sound_rest Good s ss o = record { fits = λ i. o.fits (suc i); never = λ i. o.never (suc i); good = λ i. o.good (suc i) }

pub edited_most : {T : Type 0} (ss : List (Slot T)) → edited ss ≤ length ss
unfolding edited
edited_most [] = omega arith
edited_most (s ∷ ss) =
    ⊎_elim (λ (q : s.last ≡ 0). rw (eq-eqb s.last 0 q) (omega (arith, edited_most ss))) (λ (q : s.last ≡ 0 → ⊥). rw (ne_eqb s.last 0 q) (omega (arith, edited_most ss)))
    (cases_eq s.last 0)

-- the numbers of a sound table are as wanted
module _ {T : Type 0} (t : Table) (figures : T → List ℕ) (Good : T → Type 0) (fair : (left lowest : ℕ) (x : T) → Good x → Fair (entry t left lowest station) (figures x) (next_entry t left lowest)) where
  fair_entries : (k lowest : ℕ) (ss : List (Slot T)) → lowest ≤ k → k + length ss ≤ size t → SoundSlots Good ss → Fair (next_entry t (edited ss) lowest) (entries figures k ss) (next_table t)
  unfolding Fair entries edited
  fair_entries k lowest [] h l o = refl
  fair_entries k lowest (s ∷ ss) h l o =
      ⊎_elim
      (λ (q : s.last ≡ 0).
      let z : 0 + edited ss ≡ edited ss = omega arith in
      rw (eq-eqb s.last 0 q, z) (fair_entries (suc k) lowest ss (omega arith) (omega arith) (sound_rest Good s ss o)))
      (λ (q : s.last ≡ 0 → ⊥).
      let z : 1 + edited ss ≡ suc (edited ss) = omega arith in
      let some : 1 ≤ s.last = ⊎_elim (λ (e : s.last ≡ 0). absurd (q e)) (λ _. omega arith) (cases_eq s.last 0) in
      rw (ne_eqb s.last 0 q, z)
      (fair_join (entry t (edited ss) lowest entry_number) (entry_numbers figures k s) (next_entry t (edited ss) (k + 1)) (entries figures (suc k) ss) (next_table t)
      (fair_entry t figures Good fair (edited ss) lowest k s h (omega (arith, few t)) some (o.fits 0) (o.good 0))
      (fair_entries (suc k) (k + 1) ss (omega arith) (omega arith) (sound_rest Good s ss o))))
      (cases_eq s.last 0)

  pub fair_table : (ss : List (Slot T)) → length ss ≡ size t → SoundSlots Good ss → Fair (count t) (table_numbers figures ss) (next_table t)
  unfolding Fair
  fair_table ss l o = (omega arith, omega (arith, edited_most ss), omega (arith, edited_most ss, no_more t), fair_entries 0 0 ss (omega arith) (omega arith) o)

pub pegs_sound : (t : Tables) → Sound t → SoundSlots GoodPeg t.pegs
pegs_sound t o = record { fits = o.peg_fits; never = o.peg_never; good = o.peg_good }

pub fixed_sound : (t : Tables) → Sound t → SoundSlots GoodFixed t.fixed
fixed_sound t o = record { fits = o.fixed_fits; never = o.fixed_never; good = o.fixed_good }

pub fair_book : (t : Tables) → Sound t → Fair form (book_numbers t) nothing
unfolding Fair
fair_book t o = (
  lit≤ tt,
  lit≤ tt,
  lit< tt,
  fair_join (count Pegs) (table_numbers peg_figures t.pegs) (count Fixed) (table_numbers fixed_figures t.fixed) nothing
      (fair_table Pegs peg_figures GoodPeg fair_peg t.pegs o.peg_count (pegs_sound t o)) (fair_table Fixed fixed_figures GoodFixed fair_fixed t.fixed o.fixed_count (fixed_sound t o)),
)

-- the form number, the pegs and the fixed levels, one after the other
module _ {a b : Cursor} (f : Passed a b (number 1)) where
  pub form_way : Way a form b (count Pegs)
  form_way = way_one form 1 f (lit≤ tt) (lit≤ tt) (lit< tt)

  module _ {c : Cursor} {ps : List (Slot Peg)} (p : TableRead Pegs peg_figures GoodPeg b c ps) where
    pub pegs_way : Way a form c (count Fixed)
    pegs_way = way_join form_way (record { numbers = table_numbers peg_figures ps; fair = fair_table Pegs peg_figures GoodPeg fair_peg ps p.long p.sound; passed = p.passed })

    module _ {d : Cursor} {xs : List (Slot FixedLevel)} (q : TableRead Fixed fixed_figures GoodFixed c d xs) where
      fixed_way : Way a form d nothing
      fixed_way = way_join pegs_way (record { numbers = table_numbers fixed_figures xs; fair = fair_table Fixed fixed_figures GoodFixed fair_fixed xs q.long q.sound; passed = q.passed })

      pub left_over : d.at < length a.bytes.now → FirstFrom a.bytes.now a.at form (bookfault.Extra d.at)
      left_over l = after_way fixed_way (at_once d.bytes.now d.at nothing above (bookfault.Extra d.at) d.within (rw (← fixed_way.passed.same) at l) refl)

      pub all_sound : Sound (record { pegs = ps; fixed = xs })
      all_sound =
          record {
            peg_count = p.long;
            peg_fits = p.sound.fits;
            peg_never = p.sound.never;
            peg_good = p.sound.good;
            fixed_count = q.long;
            fixed_fits = q.sound.fits;
            fixed_never = q.sound.never;
            fixed_good = q.sound.good;
          }

      pub all_read : length a.bytes.now ≤ d.at → drop a.at a.bytes.now ≡ encode (record { pegs = ps; fixed = xs })
      all_read l =
          let tables = table_numbers peg_figures ps ++ table_numbers fixed_figures xs in
          let r = passed_cons 1 tables f (passed_both (table_numbers peg_figures ps) (table_numbers fixed_figures xs) p.passed q.passed) in
          r.stands.bytes ∙ rw (drop_all d.at a.bytes.now l, append-nil (written (1 ∷ tables))) refl

-- what is written tells its numbers
written_apart : (w : Want) (ns ms : List ℕ) → Fair w ns nothing → Fair w ms nothing → written ns ≡ written ms → ns ≡ ms
unfolding Fair written
written_apart w [] [] f g e = refl
written_apart w [] (m ∷ ms) f g e = absurd (omega (arith, rw f at g.0, rw f at g.1))
written_apart w (n ∷ ns) [] f g e = absurd (omega (arith, rw g at f.0, rw g at f.1))
written_apart w (n ∷ ns) (m ∷ ms) f g e =
    let a = number_apart n m (written ns) (written ms) (omega (arith, f.2)) (omega (arith, g.2)) e in
    let t = written_apart (after w n) ns ms f.3 (rw (← a.0) at g.3) a.1 in
    rw (a.0, t) refl

-- the entries tell the slots
module _ {T : Type 0} (figures : T → List ℕ) (Good : T → Type 0) (apart : (x y : T) (xs ys : List ℕ) → figures x ++ xs ≡ figures y ++ ys → (x ≡ y) × (xs ≡ ys)) where
  entries_head : (k : ℕ) (ss : List (Slot T)) (xs : List ℕ) (n : ℕ) (ns : List ℕ) → 1 ≤ edited ss → entries figures k ss ++ xs ≡ n ∷ ns → k ≤ n
  unfolding entries edited
  entries_head k [] xs n ns h e = absurd (omega arith)
  entries_head k (s ∷ ss) xs n ns h e =
      ⊎_elim
      (λ (q : s.last ≡ 0).
      let z = eq-eqb s.last 0 q in
      let g : entries figures (suc k) ss ++ xs ≡ n ∷ ns = rw z at e in
      let i : 1 ≤ 0 + edited ss = rw z at h in
      omega (arith, entries_head (suc k) ss xs n ns (omega arith) g))
      (λ (q : s.last ≡ 0 → ⊥).
      let g : k ∷ ((s.last ∷ marked_figures figures s.held) ++ entries figures (suc k) ss) ++ xs ≡ n ∷ ns = rw (ne_eqb s.last 0 q) at e in
      let z : k ≡ n = cc in
      omega arith)
      (cases_eq s.last 0)

  held_apart : (p q : Option T) (xs ys : List ℕ) → marked_figures figures p ++ xs ≡ marked_figures figures q ++ ys → (p ≡ q) × (xs ≡ ys)
  held_apart None None xs ys e = (refl, cc)
  held_apart None (Some q) xs ys e = let z : ◌≡◌ {A = ℕ} 0 1 = cc in absurd (omega arith)
  held_apart (Some p) None xs ys e = let z : ◌≡◌ {A = ℕ} 1 0 = cc in absurd (omega arith)
  held_apart (Some p) (Some q) xs ys e = let a = apart p q xs ys (cc) in (ap Some a.0, a.1)

  unedited : (s : Slot T) → s.last ≡ 0 → s.held ≡ None → s ≡ untouched
  unedited s a b = λ i. record { last = a i; held = b i }

  pub slots_apart : (k : ℕ) (ss ts : List (Slot T)) (xs ys : List ℕ) → length ss ≡ length ts → SoundSlots Good ss → SoundSlots Good ts → edited ss ≡ edited ts
      → entries figures k ss ++ xs ≡ entries figures k ts ++ ys → (ss ≡ ts) × (xs ≡ ys)
  unfolding entries edited
  slots_apart k [] [] xs ys l o u c e = (refl, e)
  slots_apart k [] (t ∷ ts) xs ys l o u c e = absurd (omega arith)
  slots_apart k (s ∷ ss) [] xs ys l o u c e = absurd (omega arith)
  slots_apart k (s ∷ ss) (t ∷ ts) xs ys l o u c e =
      ⊎_elim
      (λ (p : s.last ≡ 0). ⊎_elim
      (λ (q : t.last ≡ 0).
      let a = eq-eqb s.last 0 p in
      let b = eq-eqb t.last 0 q in
      let g : entries figures (suc k) ss ++ xs ≡ entries figures (suc k) ts ++ ys = rw (a, b) at e in
      let d : 0 + edited ss ≡ 0 + edited ts = rw (a, b) at c in
      let i = slots_apart (suc k) ss ts xs ys (omega arith) (sound_rest Good s ss o) (sound_rest Good t ts u) (omega arith) g in
      (rw (unedited s p (o.never 0 p), unedited t q (u.never 0 q), i.0) refl, i.1))
      (λ (q : t.last ≡ 0 → ⊥).
      let a = eq-eqb s.last 0 p in
      let b = ne_eqb t.last 0 q in
      let g : entries figures (suc k) ss ++ xs ≡ k ∷ ((t.last ∷ marked_figures figures t.held) ++ entries figures (suc k) ts) ++ ys = rw (a, b) at e in
      let d : 0 + edited ss ≡ 1 + edited ts = rw (a, b) at c in
      absurd (omega (arith, entries_head (suc k) ss xs k _ (omega arith) g)))
      (cases_eq t.last 0))
      (λ (p : s.last ≡ 0 → ⊥). ⊎_elim
      (λ (q : t.last ≡ 0).
      let a = ne_eqb s.last 0 p in
      let b = eq-eqb t.last 0 q in
      let g : k ∷ ((s.last ∷ marked_figures figures s.held) ++ entries figures (suc k) ss) ++ xs ≡ entries figures (suc k) ts ++ ys = rw (a, b) at e in
      let d : 1 + edited ss ≡ 0 + edited ts = rw (a, b) at c in
      absurd (omega (arith, entries_head (suc k) ts ys k _ (omega arith) (sym g))))
      (λ (q : t.last ≡ 0 → ⊥).
      let a = ne_eqb s.last 0 p in
      let b = ne_eqb t.last 0 q in
      let g : k ∷ s.last ∷ ((marked_figures figures s.held ++ entries figures (suc k) ss) ++ xs) ≡ k ∷ t.last ∷ ((marked_figures figures t.held ++ entries figures (suc k) ts) ++ ys) = rw (a, b) at e in
      let d : 1 + edited ss ≡ 1 + edited ts = rw (a, b) at c in
      let m : s.last ≡ t.last = cc in
      let n : (marked_figures figures s.held ++ entries figures (suc k) ss) ++ xs ≡ (marked_figures figures t.held ++ entries figures (suc k) ts) ++ ys = cc in
      let h = held_apart s.held t.held (entries figures (suc k) ss ++ xs) (entries figures (suc k) ts ++ ys) (sym (append_assoc (marked_figures figures s.held) (entries figures (suc k) ss) xs) ∙ (n ∙ append_assoc (marked_figures figures t.held) (entries figures (suc k) ts) ys)) in
      let r = slots_apart (suc k) ss ts xs ys (omega arith) (sound_rest Good s ss o) (sound_rest Good t ts u) (omega arith) h.1 in
      ((λ i. record { last = m i; held = h.0 i } ∷ r.0 i), r.1))
      (cases_eq t.last 0))
      (cases_eq s.last 0)

  pub table_apart : (ss ts : List (Slot T)) (xs ys : List ℕ) → length ss ≡ length ts → SoundSlots Good ss → SoundSlots Good ts
      → table_numbers figures ss ++ xs ≡ table_numbers figures ts ++ ys → (ss ≡ ts) × (xs ≡ ys)
  table_apart ss ts xs ys l o u e = let c : edited ss ≡ edited ts = cc in slots_apart 0 ss ts xs ys l o u c (cc)

peg_apart : (p q : Peg) (xs ys : List ℕ) → peg_figures p ++ xs ≡ peg_figures q ++ ys → (p ≡ q) × (xs ≡ ys)
peg_apart p q xs ys e = ((let a : p.station ≡ q.station = cc in let b : p.level ≡ q.level = cc in λ i. record { station = a i; level = b i }), cc)

level_apart : (p q : FixedLevel) (xs ys : List ℕ) → fixed_figures p ++ xs ≡ fixed_figures q ++ ys → (p ≡ q) × (xs ≡ ys)
level_apart p q xs ys e =
    ((let a : p.station ≡ q.station = cc in let b : p.low ≡ q.low = cc in let c : p.high ≡ q.high = cc in λ i. record { station = a i; low = b i; high = c i }), cc)

pub one_book_lem : OneBook
one_book_lem a b o u e =
    let n : book_numbers a ≡ book_numbers b = written_apart form (book_numbers a) (book_numbers b) (fair_book a o) (fair_book b u) e in
    let m : table_numbers peg_figures a.pegs ++ table_numbers fixed_figures a.fixed ≡ table_numbers peg_figures b.pegs ++ table_numbers fixed_figures b.fixed = cc in
    let p = table_apart peg_figures GoodPeg peg_apart a.pegs b.pegs (table_numbers fixed_figures a.fixed) (table_numbers fixed_figures b.fixed) (o.peg_count ∙ sym u.peg_count) (pegs_sound a o) (pegs_sound b u) m in
    let q = table_apart fixed_figures GoodFixed level_apart a.fixed b.fixed [] [] (o.fixed_count ∙ sym u.fixed_count) (fixed_sound a o) (fixed_sound b u) (ap (λ (l : List ℕ). l ++ []) p.1) in
    λ i. record { pegs = p.0 i; fixed = q.0 i }
