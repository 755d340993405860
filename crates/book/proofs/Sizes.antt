-- A book of sound tables has at most 795 bytes. Assumes nothing.
use Rattle.std.proofs.Common.{◌≡◌, ℕ, zero, suc, ◌+◌, ◌*◌, ◌/◌, ◌^◌, ◌<◌, ◌≤◌, List, [], ◌∷◌, length, Some, None, Option, refl, ⊎_elim, arith, lit<}
use Rattle.std.proofs.lemmas.Bool.{cases_eq, cases_lt, eq-eqb, ne_eqb}
use Rattle.pegs.specs.declared.peg.FixedLevel.{FixedLevel}
use Rattle.pegs.specs.declared.peg.Peg.{Peg}
use Rattle.pegs.specs.declared.slot.Slot.{Slot}
use Rattle.pegs.specs.declared.tables.Tables.{Tables}
use Rattle.book.specs.Book.{edited, encode, entries, entry_numbers, fixed_figures, marked_figures, peg_figures, table_numbers, written}
use Rattle.book.specs.Numbers.{groups, number}
use Rattle.book.specs.Sound.{GoodFixed, GoodPeg, Sound, SoundSlots}
use Rattle.book.proofs.Apart.{halved}
use Rattle.book.proofs.Groups.{groups_most, more, one}
use Rattle.book.proofs.Laws.{edited_most, fixed_sound, pegs_sound, sound_rest}
use Rattle.book.proofs.Tables.{book_length}
use Rattle.book.proofs.Writes.{length_both, length_none, length-written}

-- a number of f + 1 groups takes no more bytes
groups_few : (g f n : ℕ) → f ≤ g → n < 2 ^ (7 * suc f) → length (groups (suc g) n) ≤ suc f
groups_few g zero n l h = rw (one g n h) (omega arith)
groups_few zero (suc f) n l h = absurd (omega arith)
groups_few (suc g) (suc f) n l h =
    ⊎_elim (λ (a : n < 128). rw (one (suc g) n a) (omega arith))
    (λ (a : 128 ≤ n). rw (more (suc g) n a) (omega (arith, groups_few g f (n / 128) (omega arith) (halved (suc f) n h))))
    (cases_lt n 128)

one_byte : (n : ℕ) → n < 128 → length (number n) ≤ 1
one_byte n h = groups_few 4 0 n (omega arith) h

two_bytes : (n : ℕ) → n < 16384 → length (number n) ≤ 2
two_bytes n h = groups_few 4 1 n (omega arith) h

four_bytes : (n : ℕ) → n < 268435456 → length (number n) ≤ 4
four_bytes n h = groups_few 4 3 n (omega arith) h

peg_bytes : (p : Peg) → GoodPeg p → length (written (peg_figures p)) ≤ 6
peg_bytes p g =
    omega (arith, length-written p.station (p.level ∷ []), length-written p.level [], length_none, two_bytes p.station (omega arith), four_bytes p.level (omega arith))

fixed_bytes : (x : FixedLevel) → GoodFixed x → length (written (fixed_figures x)) ≤ 10
fixed_bytes x g =
    omega (arith, length-written x.station (x.low ∷ x.high ∷ []), length-written x.low (x.high ∷ []), length-written x.high [], length_none, two_bytes x.station (omega arith), four_bytes x.low (omega arith), four_bytes x.high (omega arith))

module _ {T : Type 0} (figures : T → List ℕ) (Good : T → Type 0) (each : ℕ) (bytes : (x : T) → Good x → length (written (figures x)) + 7 ≤ each) (seven : 7 ≤ each) where
  entry_bytes : (k : ℕ) (s : Slot T) → k < 128 → ((x : T) → s.held ≡ Some x → Good x) → length (written (entry_numbers figures k s)) ≤ each
  entry_bytes k s h g = held_bytes s.held g
    where
      held_bytes : (o : Option T) → ((x : T) → o ≡ Some x → Good x) → length (written (k ∷ s.last ∷ marked_figures figures o)) ≤ each
      held_bytes None _ =
          omega (arith, length-written k (s.last ∷ 0 ∷ []), length-written s.last (0 ∷ []), length-written 0 [], length_none, one_byte k h, groups_most 5 s.last, one_byte 0 (lit< tt))
      held_bytes (Some x) g =
          omega (arith, length-written k (s.last ∷ 1 ∷ figures x), length-written s.last (1 ∷ figures x), length-written 1 (figures x), bytes x (g x refl), one_byte k h, groups_most 5 s.last, one_byte 1 (lit< tt))

  entries_bytes : (k : ℕ) (ss : List (Slot T)) → k + length ss ≤ 40 → SoundSlots Good ss → length (written (entries figures k ss)) ≤ each * length ss
  unfolding entries
  entries_bytes k [] h o = omega (arith, length_none)
  entries_bytes k (s ∷ ss) h o =
      ⊎_elim (λ (q : s.last ≡ 0). rw (eq-eqb s.last 0 q) (omega (arith, entries_bytes (suc k) ss (omega arith) (sound_rest Good s ss o))))
      (λ (q : s.last ≡ 0 → ⊥).
      rw (ne_eqb s.last 0 q)
      (omega (arith, length_both (entry_numbers figures k s) (entries figures (suc k) ss), entry_bytes k s (omega arith) (o.good 0), entries_bytes (suc k) ss (omega arith) (sound_rest Good s ss o))))
      (cases_eq s.last 0)

  table_bytes : (ss : List (Slot T)) → length ss ≤ 40 → SoundSlots Good ss → length (written (table_numbers figures ss)) ≤ 1 + each * length ss
  table_bytes ss h o =
      omega (arith, length-written (edited ss) (entries figures 0 ss), one_byte (edited ss) (omega (arith, edited_most ss)), entries_bytes 0 ss (omega arith) o)

pub book_bytes : (t : Tables) → Sound t → length (encode t) ≤ 795
book_bytes t o =
    let p = table_bytes peg_figures GoodPeg 13 (λ x g. omega (arith, peg_bytes x g)) (omega arith) t.pegs (omega (arith, o.peg_count)) (pegs_sound t o) in
    let q = table_bytes fixed_figures GoodFixed 17 (λ x g. omega (arith, fixed_bytes x g)) (omega arith) t.fixed (omega (arith, o.fixed_count)) (fixed_sound t o) in
    omega (arith, book_length t, one_byte 1 (lit< tt), p, q, o.peg_count, o.fixed_count)
