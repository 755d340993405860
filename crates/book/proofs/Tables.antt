-- The entries of a table, and the tables of a book. Assumes nothing.
use Rattle.std.proofs.Common.{◌≡◌, ℕ, suc, ◌+◌, ◌*◌, ◌<◌, ◌≤◌, List, [], ◌∷◌, ◌++◌, length, get_or, drop, sym, refl, ap, ◌∙◌, add-one, arith, length-append}
use Rattle.std.proofs.lemmas.Bool.{ne_eqb, eq-eqb}
use Rattle.std.proofs.lemmas.List.{drop_all, drop_more}
use Rattle.pegs.specs.declared.slot.Slot.{Slot}
use Rattle.pegs.specs.declared.tables.Tables.{Tables}
use Rattle.book.specs.Book.{edited, encode, entries, entry_numbers, fixed_figures, peg_figures, table_numbers, written}
use Rattle.book.specs.Numbers.{number}
use Rattle.book.specs.Writing.{Tallied}
use Rattle.book.proofs.Paths.{written-append}
use Rattle.book.proofs.Writes.{length_both, length-written}

-- what is left to tally leads to all of it
pub record Counting {T : Type 0} (figures : T → List ℕ) (ss : List (Slot T)) (k count size : ℕ) : Type 0 where
  pub counted : count + edited (drop k ss) ≡ edited ss
  pub sized : size + length (written (entries figures k (drop k ss))) ≡ length (written (entries figures 0 ss))
  pub low : count ≤ k
  pub small : size ≤ 30 * k

module _ {T : Type 0} (figures : T → List ℕ) (ss : List (Slot T)) where
  pub whole_table : (count : ℕ) → count ≡ edited ss → written (table_numbers figures ss) ≡ number count ++ written (entries figures 0 ss)
  unfolding written
  whole_table count e = rw e refl

  pub no_entry : (k : ℕ) → length ss ≤ k → written (entries figures k (drop k ss)) ≡ []
  unfolding written entries
  no_entry k h = rw (drop_all k ss h) refl

  -- the entries from the k-th slot on
  module _ (k : ℕ) (s : Slot T) (is : s ≡ get_or ss k s) (lt : k < length ss) where
    here : drop k ss ≡ s ∷ drop (k + 1) ss
    here = drop_more ss k s lt ∙ ap (λ (x : Slot T). x ∷ drop (k + 1) ss) (sym is)

    pub entries_skip : s.last ≤ 0 → entries figures k (drop k ss) ≡ entries figures (k + 1) (drop (k + 1) ss)
    unfolding entries
    entries_skip h = rw (here, eq-eqb s.last 0 (omega arith), add-one) refl

    edited_skip : s.last ≤ 0 → edited (drop k ss) ≡ edited (drop (k + 1) ss)
    unfolding edited
    edited_skip h = rw (here, eq-eqb s.last 0 (omega arith)) (omega arith)

    pub entries_take : 0 < s.last → written (entries figures k (drop k ss)) ≡ written (entry_numbers figures k s) ++ written (entries figures (k + 1) (drop (k + 1) ss))
    unfolding entries
    entries_take h = rw (here, ne_eqb s.last 0 (λ e. omega arith), add-one) (written-append (entry_numbers figures k s) (entries figures (suc k) (drop (suc k) ss)))

    edited_take : 0 < s.last → edited (drop k ss) ≡ 1 + edited (drop (k + 1) ss)
    unfolding edited
    edited_take h = rw (here, ne_eqb s.last 0 (λ e. omega arith)) refl

    module _ (count size : ℕ) (c : Counting figures ss k count size) where
      pub count_skip : s.last ≤ 0 → Counting figures ss (k + 1) count size
      count_skip h =
          record {
            counted = omega (arith, edited_skip h, c.counted);
            sized = rw (entries_skip h) at c.sized;
            low = omega (arith, c.low);
            small = omega (arith, c.small);
          }

      pub count_take : 0 < s.last → length (written (entry_numbers figures k s)) ≤ 30 → Counting figures ss (k + 1) (count + 1) (size + length (written (entry_numbers figures k s)))
      count_take h few =
          record {
            counted = omega (arith, edited_take h, c.counted);
            sized = omega (arith, c.sized, ap length (entries_take h), length-append (written (entry_numbers figures k s)) (written (entries figures (k + 1) (drop (k + 1) ss))));
            low = omega (arith, c.low);
            small = omega (arith, c.small);
          }

  pub count_stop : (k count size : ℕ) → Counting figures ss k count size → length ss ≤ 40 → k ≡ length ss → (head : ℕ) → head ≡ length (number count) → head ≤ 5 → Tallied figures ss (record { count = count; size = head + size })
  unfolding edited
  count_stop k count size c few h head is short =
      let a = rw (drop_all k ss (omega arith)) at c.counted in
      let n : count ≡ edited ss = omega (arith, a) in
      record {
        count = n;
        size = omega (arith, c.sized, ap length (no_entry k (omega arith)), length-written (edited ss) (entries figures 0 ss), is ∙ ap (λ (m : ℕ). length (number m)) n);
        few = omega (arith, c.small);
      }

-- the form number and the two tables make the book
pub book_length : (t : Tables) → length (encode t) ≡ length (number 1) + (length (written (table_numbers peg_figures t.pegs)) + length (written (table_numbers fixed_figures t.fixed)))
book_length t =
    length-written 1 (table_numbers peg_figures t.pegs ++ table_numbers fixed_figures t.fixed)
    ∙ ap (λ (n : ℕ). length (number 1) + n) (length_both (table_numbers peg_figures t.pegs) (table_numbers fixed_figures t.fixed))

pub form_first : (t : Tables) → encode t ≡ number 1 ++ (written (table_numbers peg_figures t.pegs) ++ written (table_numbers fixed_figures t.fixed))
unfolding written
form_first t = rw (written-append (table_numbers peg_figures t.pegs) (table_numbers fixed_figures t.fixed)) refl
