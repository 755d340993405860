-- One entry after the other. Assumes nothing.
use Rattle.std.proofs.Common.{◌≡◌, ℕ, zero, suc, ◌+◌, ◌-◌, ◌^◌, ◌<◌, ◌≤◌, List, [], ◌∷◌, ◌++◌, length, get_or, set, replicate, Some, None, Option, refl, ap, ◌∙◌, ⊎_elim, append_assoc, add-zero, arith, lit<, lit≤}
use Rattle.std.proofs.lemmas.Bool.{ne_eqb, cases_eq, cases_lt}
use Rattle.std.proofs.lemmas.List.{append-nil, get_or-replicate, get_or_past, length-set, length-replicate, get_or-set_same, get_or-set_other}
use Rattle.pegs.specs.Slots.{untouched}
use Rattle.pegs.specs.declared.slot.Slot.{Slot}
use Rattle.book.specs.declared.cursor.Cursor.{Cursor}
use Rattle.book.specs.declared.entry.Entry.{Entry}
use Rattle.book.specs.declared.entry.Table.{Table}
use Rattle.book.specs.declared.entry.Table.TheVariants.{Pegs, Fixed}
use Rattle.book.specs.declared.fault.BookFault.TheVariants as bookfault
use Rattle.book.specs.declared.fault.EntryFault.{EntryFault}
use Rattle.book.specs.Book.{edited, entries, entry_numbers, marked_figures, written}
use Rattle.book.specs.Numbers.{number, Passed}
use Rattle.book.specs.Reading.{EntryRead, InRange, TableRead}
use Rattle.book.specs.Sound.{SoundSlots}
use Rattle.book.specs.Wanted.{Fair, FirstFrom, FirstInEntry, above, below, count, entry, entry_number, form, highest, next_entry, size, station}
use Rattle.book.proofs.Paths.{Way, after_way, at_once, fair_join, in_book, passed_both, passed_one}

pub few : (t : Table) → highest t + 1 ≡ size t
few Pegs = refl
few Fixed = refl

pub no_more : (t : Table) → size t ≤ 40
no_more Pegs = lit≤ tt
no_more Fixed = lit≤ tt

-- a form number other than 1 is above it or below
pub not_one : (a b : Cursor) (n : ℕ) → Passed a b (number n) → n < 2 ^ 32 → (n ≡ 1 → ⊥) → FirstFrom a.bytes.now a.at form (bookfault.Form a.at)
not_one a b n s l h =
    ⊎_elim
    (λ (q : 1 < n). at_once a.bytes.now a.at form above (bookfault.Form a.at) a.within (record { value = n; to = b.at; small = l; stands = s.stands; has = q }) refl)
    (λ (q : n ≤ 1).
    at_once a.bytes.now a.at form below (bookfault.Form a.at) a.within
    (record { value = n; to = b.at; small = l; stands = s.stands; has = (q, ⊎_elim (λ (z : n ≡ 1). absurd (h z)) (λ _. omega arith) (cases_eq n 1)) }) refl)
    (cases_lt 1 n)

module _ {T : Type 0} (figures : T → List ℕ) where
  entries_none : (k : ℕ) (ss : List (Slot T)) → ((j : ℕ) → get_or ss j untouched ≡ untouched) → entries figures k ss ≡ []
  unfolding entries
  entries_none k [] h = refl
  entries_none k (s ∷ ss) h = rw (h 0, entries_none (suc k) ss (λ j. h (suc j))) refl

  edited_none : (ss : List (Slot T)) → ((j : ℕ) → get_or ss j untouched ≡ untouched) → edited ss ≡ 0
  unfolding edited
  edited_none [] h = refl
  edited_none (s ∷ ss) h = rw (h 0, edited_none ss (λ j. h (suc j))) refl

  -- an entry above all others stands after them
  pub entries-set : (k : ℕ) (ss : List (Slot T)) (i : ℕ) (s : Slot T) → i < length ss → ((j : ℕ) → i ≤ j → get_or ss j untouched ≡ untouched) → 1 ≤ s.last
      → entries figures k (set ss i s) ≡ entries figures k ss ++ entry_numbers figures (k + i) s
  unfolding entries
  entries-set k [] i s l h p = absurd (omega arith)
  entries-set k (x ∷ xs) zero s l h p =
      let f = ne_eqb s.last 0 (λ e. omega arith) in
      let e = entries_none (suc k) xs (λ j. h (suc j) (omega arith)) in
      rw (f, h 0 (omega arith), e, append-nil (marked_figures figures s.held), add-zero k) refl
  entries-set k (x ∷ xs) (suc i) s l h p =
      let e = entries-set (suc k) xs i s (omega arith) (λ j q. h (suc j) (omega arith)) p in
      let a : k + suc i ≡ suc k + i = omega arith in
      rw (a, e, append_assoc) refl

  pub edited-set : (ss : List (Slot T)) (i : ℕ) (s : Slot T) → i < length ss → ((j : ℕ) → i ≤ j → get_or ss j untouched ≡ untouched) → 1 ≤ s.last → edited (set ss i s) ≡ edited ss + 1
  unfolding edited
  edited-set [] i s l h p = absurd (omega arith)
  edited-set (x ∷ xs) zero s l h p =
      let f = ne_eqb s.last 0 (λ e. omega arith) in
      let e = edited_none xs (λ j. h (suc j) (omega arith)) in
      rw (f, h 0 (omega arith), e) refl
  edited-set (x ∷ xs) (suc i) s l h p =
      let e = edited-set xs i s (omega arith) (λ j q. h (suc j) (omega arith)) p in
      rw e (omega arith)

module _ {T : Type 0} (t : Table) (figures : T → List ℕ) (Good : T → Type 0) (fair : (left lowest : ℕ) (x : T) → Good x → Fair (entry t left lowest station) (figures x) (next_entry t left lowest)) where
  -- the numbers of an entry are as wanted
  pub fair_entry : (left lowest k : ℕ) (s : Slot T) → lowest ≤ k → k ≤ highest t → 1 ≤ s.last → s.last < 2 ^ 32 → ((x : T) → s.held ≡ Some x → Good x)
      → Fair (entry t left lowest entry_number) (entry_numbers figures k s) (next_entry t left (k + 1))
  unfolding Fair
  fair_entry left lowest k s l h p f g = fair_held s.held g
    where
      fair_held : (o : Option T) → ((x : T) → o ≡ Some x → Good x) → Fair (entry t left lowest entry_number) (k ∷ s.last ∷ marked_figures figures o) (next_entry t left (k + 1))
      fair_held None _ = (l, h, omega (arith, few t, no_more t), (p, omega arith, f, (omega arith, lit≤ tt, lit< tt, refl)))
      fair_held (Some x) g = (l, h, omega (arith, few t, no_more t), (p, omega arith, f, (omega arith, lit≤ tt, lit< tt, fair left (k + 1) x (g x refl))))

-- the first k of the entries are read
pub record Sofar {T : Type 0} (t : Table) (figures : T → List ℕ) (Good : T → Type 0) (a b : Cursor) (total k lowest : ℕ) (slots : List (Slot T)) : Type 0 where
  pub fair : Fair (count t) (total ∷ entries figures 0 slots) (next_entry t (total - k) lowest)
  pub passed : Passed a b (written (total ∷ entries figures 0 slots))
  pub empties : (j : ℕ) → lowest ≤ j → get_or slots j untouched ≡ untouched
  pub counted : edited slots ≡ k
  pub long : length slots ≡ size t
  pub high : lowest ≤ size t
  pub sound : SoundSlots Good slots

module _ {T : Type 0} (t : Table) (figures : T → List ℕ) (Good : T → Type 0) where
  unset : (j : ℕ) → get_or (replicate (size t) (untouched {T = T})) j untouched ≡ untouched
  unset j = ⊎_elim (λ q. get_or-replicate (size t) j untouched untouched q) (λ q. get_or_past (replicate (size t) untouched) j untouched (omega (arith, length-replicate (size t) (untouched {T = T})))) (cases_lt j (size t))

  pub begin : {a b : Cursor} {n : ℕ} → InRange a b 0 (size t) n → Sofar t figures Good a b n 0 0 (replicate (size t) untouched)
  unfolding Fair
  begin {n = n} i =
      let z : n - 0 ≡ n = omega arith in
      let e = entries_none figures 0 (replicate (size t) untouched) unset in
      record {
        fair = rw (e, z) (i.above, i.below, omega (arith, i.below, no_more t), refl);
        passed = rw e (passed_one n i.passed);
        empties = λ j _. unset j;
        counted = edited_none figures (replicate (size t) untouched) unset;
        long = length-replicate (size t) untouched;
        high = omega arith;
        sound = record {
          fits = λ j. rw (unset j) (lit< tt);
          never = λ j _. ap (λ (s : Slot T). s.held) (unset j);
          good = λ j x q. let u = ap (λ (s : Slot T). s.held) (unset j) in let z : ◌≡◌ {A = ℕ} 0 1 = cc in absurd (omega arith);
        };
      }

module _ {T : Type 0} {t : Table} {figures : T → List ℕ} {Good : T → Type 0} {a b : Cursor} {total k lowest : ℕ} {slots : List (Slot T)} (f : Sofar t figures Good a b total k lowest slots) where
  goes_on : k < total → Fair (count t) (total ∷ entries figures 0 slots) (entry t (total - (k + 1)) lowest entry_number)
  goes_on lt = let more : total - k ≡ suc (total - (k + 1)) = omega arith in rw more at f.fair

  pub in_entry : k < total → (x : EntryFault) → ((left : ℕ) → FirstInEntry b.bytes.now b.at (entry t left lowest entry_number) x) → FirstFrom a.bytes.now a.at (count t) (bookfault.Entry x)
  in_entry lt x h =
      let left = total - (k + 1) in
      let y : Way a (count t) b (entry t left lowest entry_number) = record { numbers = total ∷ entries figures 0 slots; fair = goes_on lt; passed = f.passed } in
      after_way y (in_book b.bytes.now b.at (entry t left lowest entry_number) x (h left))

  pub whole : k ≡ total → TableRead t figures Good a b slots
  whole h =
      let e : edited slots ≡ total = f.counted ∙ h in
      record { passed = rw e f.passed; long = f.long; sound = f.sound }

  module _ (fair : (left lowest : ℕ) (x : T) → Good x → Fair (entry t left lowest station) (figures x) (next_entry t left lowest)) {c : Cursor} {e : Entry T} (n : EntryRead t figures Good b c lowest e) where
    pub inside : e.number < length slots
    inside = omega (arith, n.below, f.long, few t)

    none : (j : ℕ) → e.number ≤ j → get_or slots j untouched ≡ untouched
    none j h = f.empties j (omega (arith, n.above))

    grows : entries figures 0 (set slots e.number e.slot) ≡ entries figures 0 slots ++ entry_numbers figures e.number e.slot
    grows = let z : 0 + e.number ≡ e.number = omega arith in rw z at (entries-set figures 0 slots e.number e.slot inside none n.last)

    same : get_or (set slots e.number e.slot) e.number untouched ≡ e.slot
    same = get_or-set_same slots e.number e.slot untouched inside

    other : (i : ℕ) → (i ≡ e.number → ⊥) → get_or (set slots e.number e.slot) i untouched ≡ get_or slots i untouched
    other i q = get_or-set_other slots e.number i e.slot untouched q

    pub enter : k < total → Sofar t figures Good a c total (k + 1) (e.number + 1) (set slots e.number e.slot)
    enter lt =
        record {
          fair = rw grows
              (fair_join (count t) (total ∷ entries figures 0 slots) (entry t (total - (k + 1)) lowest entry_number) (entry_numbers figures e.number e.slot) (next_entry t (total - (k + 1)) (e.number + 1)) (goes_on lt)
              (fair_entry t figures Good fair (total - (k + 1)) lowest e.number e.slot n.above n.below n.last n.fits n.good));
          passed = rw grows (passed_both (total ∷ entries figures 0 slots) (entry_numbers figures e.number e.slot) f.passed n.passed);
          empties = λ j h. other j (λ q. omega arith) ∙ f.empties j (omega (arith, n.above));
          counted = edited-set figures slots e.number e.slot inside none n.last ∙ omega (arith, f.counted);
          long = length-set slots e.number e.slot ∙ f.long;
          high = omega (arith, n.below, few t);
          sound = record {
            fits = λ i. ⊎_elim (λ (q : i ≡ e.number). rw (q, same) n.fits) (λ q. rw (other i q) (f.sound.fits i)) (cases_eq i e.number);
            never = λ i.
                ⊎_elim (λ (q : i ≡ e.number). rw (q, same) (λ (z : e.slot.last ≡ 0). absurd (omega (arith, n.last))))
                (λ q. rw (other i q) (f.sound.never i)) (cases_eq i e.number);
            good = λ i. ⊎_elim (λ (q : i ≡ e.number). rw (q, same) n.good) (λ q. rw (other i q) (f.sound.good i)) (cases_eq i e.number);
          };
        }
