-- The tables through a log of edits. Assumes nothing.
use Rattle.std.proofs.Common.{◌≡◌, ℕ, ◌<◌, ◌≤◌, List, [], ◌∷◌, ◌++◌, length, get_or, Some, None, Ok, Err, Option, Result, sym, refl, ap, ◌∙◌, subst, ⊎_elim, arith}
use Rattle.std.proofs.lemmas.List.{get_or_past}
use Rattle.std.proofs.lemmas.Bool.{cases_lt}
use Rattle.pegs.specs.Edits.{WellFormed, sequence}
use Rattle.pegs.specs.Slots.{untouched}
use Rattle.pegs.specs.Tables.{EditRefused, Edited, fixed_slot, no_tables, peg_slot, remembered, written}
use Rattle.pegs.specs.declared.edit.Edit.{Edit}
use Rattle.pegs.specs.declared.edit.Edit.TheVariants.{Place, Lift, Fix, Clear}
use Rattle.pegs.specs.declared.edit.EditRefusal.{EditRefusal}
use Rattle.pegs.specs.declared.edit.EditRefusal.TheVariants.{NumberTooHigh, SequenceZero, StationTooHigh, LevelTooHigh, LowAboveHigh, SequenceLower, SequenceEqual}
use Rattle.pegs.specs.declared.peg.FixedLevel.{FixedLevel}
use Rattle.pegs.specs.declared.peg.Peg.{Peg}
use Rattle.pegs.specs.declared.slot.Slot.{Slot}
use Rattle.pegs.specs.declared.tables.Tables.{Tables}
use Rattle.profile.specs.Entries.{entries, entries_from, fixed_edit, peg_edit}
use Rattle.profile.specs.Law.{OfFixed, OfPeg, fixed_said, peg_said}
use Rattle.profile.proofs.BookStands.{Numbers, none_count, slot_standing}
use Rattle.profile.proofs.Kept.{TablesSound, at_replicate}
use Rattle.profile.proofs.Standing.{Standing, all_after, all_before, left, none_standing, written_standing}

-- a well-formed edit is refused only for coming late
late : (e : Edit) (b : Tables) (x : EditRefusal) → EditRefused e b x → WellFormed e → sequence e ≤ remembered e b
late e b NumberTooHigh h w = absurd (h w.numbered)
late e b SequenceZero h w = absurd (h.1 w.sequenced)
late e b StationTooHigh h w = absurd (h.2 w.near)
late e b LevelTooHigh h w = absurd (h.3 w.low)
late e b LowAboveHigh h w = absurd (h.4 w.ordered)
late e b SequenceLower h w = omega arith
late e b SequenceEqual h w = omega arith

peg_late : (e : Edit) (b : Tables) (x : EditRefusal) (n : ℕ) → EditRefused e b x → OfPeg n e → (0 < sequence e) × (sequence e ≤ (peg_slot b n).last)
peg_late (Place m s st l) b x n h c = (c.1.sequenced.0, subst (λ k. s ≤ (peg_slot b k).last) c.0 (late (Place m s st l) b x h c.1))
peg_late (Lift m s) b x n h c = (c.1.sequenced.0, subst (λ k. s ≤ (peg_slot b k).last) c.0 (late (Lift m s) b x h c.1))
peg_late (Fix m s st l u) b x n h c = absurd c
peg_late (Clear m s) b x n h c = absurd c

fixed_late : (e : Edit) (b : Tables) (x : EditRefusal) (n : ℕ) → EditRefused e b x → OfFixed n e → (0 < sequence e) × (sequence e ≤ (fixed_slot b n).last)
fixed_late (Place m s st l) b x n h c = absurd c
fixed_late (Lift m s) b x n h c = absurd c
fixed_late (Fix m s st l u) b x n h c = (c.1.sequenced.0, subst (λ k. s ≤ (fixed_slot b k).last) c.0 (late (Fix m s st l u) b x h c.1))
fixed_late (Clear m s) b x n h c = (c.1.sequenced.0, subst (λ k. s ≤ (fixed_slot b k).last) c.0 (late (Clear m s) b x h c.1))

-- every slot is as the log says
pub record State (log : List Edit) (t : Tables) : Type 0 where
  pub forty : length t.pegs ≡ 40
  pub sixteen : length t.fixed ≡ 16
  pub pegs : (n : ℕ) → Standing (OfPeg n) peg_said log (peg_slot t n)
  pub fixed : (n : ℕ) → Standing (OfFixed n) fixed_said log (fixed_slot t n)

pub none : State [] no_tables
none = record {
  forty = refl;
  sixteen = refl;
  pegs = λ n. subst (Standing (OfPeg n) peg_said []) (sym (at_replicate 40 n)) (none_standing (OfPeg n) peg_said);
  fixed = λ n. subst (Standing (OfFixed n) fixed_said []) (sym (at_replicate 16 n)) (none_standing (OfFixed n) fixed_said);
}

taken : (e : Edit) (b a : Tables) (log : List Edit) → TablesSound a → WellFormed e → remembered e b < sequence e → a ≡ written e b → State log b → State (log ++ (e ∷ [])) (written e b)
taken (Place m s st l) b a log sound w more is g = record {
  forty = ap (λ t. length t.pegs) (sym is) ∙ sound.forty;
  sixteen = g.sixteen;
  pegs = λ n. written_standing (OfPeg n) peg_said b.pegs m n (Place m s st l) log (omega (arith, g.forty, w.numbered)) (λ e. (e, w)) (λ c. c.0) more (g.pegs n);
  fixed = λ n. left (OfFixed n) fixed_said log (fixed_slot b n) (Place m s st l) (g.fixed n) (λ c. absurd c);
}
taken (Lift m s) b a log sound w more is g = record {
  forty = ap (λ t. length t.pegs) (sym is) ∙ sound.forty;
  sixteen = g.sixteen;
  pegs = λ n. written_standing (OfPeg n) peg_said b.pegs m n (Lift m s) log (omega (arith, g.forty, w.numbered)) (λ e. (e, w)) (λ c. c.0) more (g.pegs n);
  fixed = λ n. left (OfFixed n) fixed_said log (fixed_slot b n) (Lift m s) (g.fixed n) (λ c. absurd c);
}
taken (Fix m s st l h) b a log sound w more is g = record {
  forty = g.forty;
  sixteen = ap (λ t. length t.fixed) (sym is) ∙ sound.sixteen;
  pegs = λ n. left (OfPeg n) peg_said log (peg_slot b n) (Fix m s st l h) (g.pegs n) (λ c. absurd c);
  fixed = λ n. written_standing (OfFixed n) fixed_said b.fixed m n (Fix m s st l h) log (omega (arith, g.sixteen, w.numbered)) (λ e. (e, w)) (λ c. c.0) more (g.fixed n);
}
taken (Clear m s) b a log sound w more is g = record {
  forty = g.forty;
  sixteen = ap (λ t. length t.fixed) (sym is) ∙ sound.sixteen;
  pegs = λ n. left (OfPeg n) peg_said log (peg_slot b n) (Clear m s) (g.pegs n) (λ c. absurd c);
  fixed = λ n. written_standing (OfFixed n) fixed_said b.fixed m n (Clear m s) log (omega (arith, g.sixteen, w.numbered)) (λ e. (e, w)) (λ c. c.0) more (g.fixed n);
}

refused : (e : Edit) (b : Tables) (x : EditRefusal) (log : List Edit) → EditRefused e b x → State log b → State (log ++ (e ∷ [])) b
refused e b x log h g = record {
  forty = g.forty;
  sixteen = g.sixteen;
  pegs = λ n. left (OfPeg n) peg_said log (peg_slot b n) e (g.pegs n) (peg_late e b x n h);
  fixed = λ n. left (OfFixed n) fixed_said log (fixed_slot b n) e (g.fixed n) (fixed_late e b x n h);
}

pub one_edit : (e : Edit) (b a : Tables) (r : Result (Unit {0}) EditRefusal) (log : List Edit) → TablesSound a → Edited e b a r → State log b → State (log ++ (e ∷ [])) a
one_edit e b a (Ok u) log sound h g = subst (State (log ++ (e ∷ []))) (sym h.2) (taken e b a log sound h.0 h.1 h.2 g)
one_edit e b a (Err x) log sound h g = subst (State (log ++ (e ∷ []))) (sym h.1) (refused e b x log h.0 g)

-- the edits of pegs and of fixed levels, told apart
peg_numbers : Numbers OfPeg peg_edit peg_said
peg_numbers = record {
  other = λ n j s v. elim v as (λ o. (j ≡ n → ⊥) → OfPeg n (peg_edit j s o) → ⊥) [ None ↦ λ far c. far c.0 | Some p ↦ λ far c. far c.0 ];
  numbered = λ j s v. elim v as (λ o. sequence (peg_edit j s o) ≡ s) [ None ↦ refl | Some p ↦ refl ];
  says = λ j s v. elim v as (λ o. peg_said (peg_edit j s o) ≡ o) [ None ↦ refl | Some p ↦ refl ];
}

fixed_numbers : Numbers OfFixed fixed_edit fixed_said
fixed_numbers = record {
  other = λ n j s v. elim v as (λ o. (j ≡ n → ⊥) → OfFixed n (fixed_edit j s o) → ⊥) [ None ↦ λ far c. far c.0 | Some p ↦ λ far c. far c.0 ];
  numbered = λ j s v. elim v as (λ o. sequence (fixed_edit j s o) ≡ s) [ None ↦ refl | Some p ↦ refl ];
  says = λ j s v. elim v as (λ o. fixed_said (fixed_edit j s o) ≡ o) [ None ↦ refl | Some p ↦ refl ];
}

no_fixed_is_peg : (n j s : ℕ) (v : Option FixedLevel) → OfPeg n (fixed_edit j s v) → ⊥
no_fixed_is_peg n j s None c = c
no_fixed_is_peg n j s (Some f) c = c

no_peg_is_fixed : (n j s : ℕ) (v : Option Peg) → OfFixed n (peg_edit j s v) → ⊥
no_peg_is_fixed n j s None c = c
no_peg_is_fixed n j s (Some f) c = c

-- the entry of an edited peg is a well-formed edit of it
peg_counts : (n s : ℕ) (v : Option Peg) → n < 40 → (0 < s) → (s < 4294967296) → ((p : Peg) → v ≡ Some p → (p.station ≤ 10000) × (p.level ≤ 9000000)) → OfPeg n (peg_edit n s v)
peg_counts n s None low some small fine = (refl, record { numbered = omega arith; sequenced = (some, small); near = tt; low = tt; ordered = tt })
peg_counts n s (Some p) low some small fine = (refl, record { numbered = omega arith; sequenced = (some, small); near = (fine p refl).0; low = (fine p refl).1; ordered = tt })

fixed_counts : (n s : ℕ) (v : Option FixedLevel) → n < 16 → (0 < s) → (s < 4294967296) → ((f : FixedLevel) → v ≡ Some f → (f.station ≤ 10000) × (f.low ≤ f.high) × (f.high ≤ 9000000)) → OfFixed n (fixed_edit n s v)
fixed_counts n s None low some small fine = (refl, record { numbered = omega arith; sequenced = (some, small); near = tt; low = tt; ordered = tt })
fixed_counts n s (Some f) low some small fine =
    let k = fine f refl in
    (refl, record { numbered = omega arith; sequenced = (some, small); near = k.0; low = (omega (arith, k.1, k.2), k.2); ordered = k.1 })

-- a slot past the end was never edited
past_end : {V : Type 0} (slots : List (Slot V)) (n : ℕ) → length slots ≤ n → (get_or slots n untouched).last ≡ 0
past_end slots n far = ap (λ s. s.last) (get_or_past slots n untouched far)

pub book_state : (t : Tables) → TablesSound t → State (entries t) t
book_state t sound = record {
  forty = sound.forty;
  sixteen = sound.sixteen;
  pegs = λ n. all_after (OfPeg n) peg_said (entries_from peg_edit 0 t.pegs) (entries_from fixed_edit 0 t.fixed) (peg_slot t n)
      (none_count (OfPeg n) fixed_edit 0 t.fixed (λ j s v h. no_fixed_is_peg n j s v))
      (slot_standing OfPeg peg_edit peg_said peg_numbers 0 t.pegs n n (omega arith) (sound.pegs n).untouched_empty (peg_fair n));
  fixed = λ n. all_before (OfFixed n) fixed_said (entries_from peg_edit 0 t.pegs) (entries_from fixed_edit 0 t.fixed) (fixed_slot t n)
      (none_count (OfFixed n) peg_edit 0 t.pegs (λ j s v h. no_peg_is_fixed n j s v))
      (slot_standing OfFixed fixed_edit fixed_said fixed_numbers 0 t.fixed n n (omega arith) (sound.fixed n).untouched_empty (fixed_fair n));
}
  where
    peg_fair : (n : ℕ) → ((peg_slot t n).last ≡ 0 → ⊥) → OfPeg n (peg_edit n (peg_slot t n).last (peg_slot t n).held)
    peg_fair n some =
        ⊎_elim
        (λ (low : n < 40). peg_counts n (peg_slot t n).last (peg_slot t n).held low (omega (arith, some)) (sound.pegs n).fit (sound.pegs n).fine)
        (λ (far : 40 ≤ n). absurd (some (past_end t.pegs n (omega (arith, sound.forty)))))
        (cases_lt n 40)

    fixed_fair : (n : ℕ) → ((fixed_slot t n).last ≡ 0 → ⊥) → OfFixed n (fixed_edit n (fixed_slot t n).last (fixed_slot t n).held)
    fixed_fair n some =
        ⊎_elim
        (λ (low : n < 16). fixed_counts n (fixed_slot t n).last (fixed_slot t n).held low (omega (arith, some)) (sound.fixed n).fit (sound.fixed n).fine)
        (λ (far : 16 ≤ n). absurd (some (past_end t.fixed n (omega (arith, sound.sixteen)))))
        (cases_lt n 16)
