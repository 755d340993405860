-- An edit keeps what holds of every slot. Assumes nothing.
use Rattle.std.proofs.Common.{◌≡◌, ℕ, zero, suc, ◌^◌, ◌<◌, ◌≤◌, false, List, [], ◌∷◌, length, get_or, set, replicate, is_some, Some, None, Ok, Err, Option, Result, sym, refl, ◌∙◌, subst, arith, length-set}
use Rattle.pegs.specs.Edits.{WellFormed}
use Rattle.pegs.specs.Slots.{untouched}
use Rattle.pegs.specs.Tables.{Edited, fixed_slot, no_tables, peg_slot, written}
use Rattle.pegs.specs.declared.edit.Edit.{Edit}
use Rattle.pegs.specs.declared.edit.Edit.TheVariants.{Place, Lift, Fix, Clear}
use Rattle.pegs.specs.declared.edit.EditRefusal.{EditRefusal}
use Rattle.pegs.specs.declared.peg.FixedLevel.{FixedLevel}
use Rattle.pegs.specs.declared.peg.Peg.{Peg}
use Rattle.pegs.specs.declared.slot.Slot.{Slot}
use Rattle.pegs.specs.declared.tables.Tables.{Tables}
use Rattle.profile.specs.declared.profile.Profile.{Profile}
use Rattle.profile.specs.Sound.{FixedFine, FixedFit, FixedUntouched, PegsFine, PegsFit, PegsUntouched}

-- what holds of every slot of a table, and of the one that is written, holds after the writing
pub kept_by_set : {V : Type 0} (P : Slot V → Type 0) (slots : List (Slot V)) (m : ℕ) (s : Slot V)
    → ((n : ℕ) → P (get_or slots n untouched)) → P s → (n : ℕ) → P (get_or (set slots m s) n untouched)
kept_by_set P [] m s all new n = all n
kept_by_set P (x ∷ xs) zero s all new zero = new
kept_by_set P (x ∷ xs) zero s all new (suc n) = all (suc n)
kept_by_set P (x ∷ xs) (suc m) s all new zero = all zero
kept_by_set P (x ∷ xs) (suc m) s all new (suc n) = kept_by_set P xs m s (λ k. all (suc k)) new n

-- a slot that was never edited stands wherever a table of such slots is looked at
pub at_replicate : {V : Type 0} (k n : ℕ) → get_or (replicate k (untouched {T = V})) n untouched ≡ untouched
at_replicate zero n = refl
at_replicate (suc k) zero = refl
at_replicate (suc k) (suc n) = at_replicate k n

-- all that holds of a slot, where what it holds is fine
pub record SlotSound {V : Type 0} (Fine : V → Type 0) (s : Slot V) : Type 0 where
  pub fine : (v : V) → s.held ≡ Some v → Fine v
  pub fit : s.last < 2 ^ 32
  pub untouched_empty : s.last ≡ 0 → is_some s.held ≡ false

abbrev PegFine : Peg → Type 0
PegFine p = (p.station ≤ 10000) × (p.level ≤ 9000000)

abbrev FixedLevelFine : FixedLevel → Type 0
FixedLevelFine f = (f.station ≤ 10000) × (f.low ≤ f.high) × (f.high ≤ 9000000)

-- all that holds of a profile's tables
pub record TablesSound (t : Tables) : Type 0 where
  pub forty : length t.pegs ≡ 40
  pub sixteen : length t.fixed ≡ 16
  pub pegs : (n : ℕ) → SlotSound PegFine (peg_slot t n)
  pub fixed : (n : ℕ) → SlotSound FixedLevelFine (fixed_slot t n)

-- a slot that holds nothing is sound, and so is one that was written with what is fine
empty_sound : {V : Type 0} (Fine : V → Type 0) (s : ℕ) → s < 2 ^ 32 → SlotSound Fine (record { last = s; held = None })
empty_sound Fine s small = record { fine = λ v e. let z : ◌≡◌ {A = ℕ} 0 1 = cc in absurd (omega arith); fit = small; untouched_empty = λ _. refl }

same_some : {V : Type 0} (x y : V) → ◌≡◌ {A = Option V} (Some x) (Some y) → x ≡ y
same_some x y e = cc

held_sound : {V : Type 0} (Fine : V → Type 0) (s : ℕ) (v : V) → 0 < s → s < 2 ^ 32 → Fine v → SlotSound Fine (record { last = s; held = Some v })
held_sound Fine s v some small fine = record { fine = λ w e. subst Fine (same_some v w e) fine; fit = small; untouched_empty = λ z. absurd (omega arith) }

pub new_sound : TablesSound no_tables
new_sound = record {
  forty = refl;
  sixteen = refl;
  pegs = λ n. subst (SlotSound PegFine) (sym (at_replicate 40 n)) (empty_sound PegFine 0 (omega arith));
  fixed = λ n. subst (SlotSound FixedLevelFine) (sym (at_replicate 16 n)) (empty_sound FixedLevelFine 0 (omega arith));
}

written_sound : (e : Edit) (b : Tables) → WellFormed e → TablesSound b → TablesSound (written e b)
written_sound (Place m s st l) b w t = record {
  forty = length-set b.pegs m _ ∙ t.forty;
  sixteen = t.sixteen;
  pegs = kept_by_set (SlotSound PegFine) b.pegs m _ t.pegs (held_sound PegFine s (record { station = st; level = l }) w.sequenced.0 w.sequenced.1 (w.near, w.low));
  fixed = t.fixed;
}
written_sound (Lift m s) b w t = record {
  forty = length-set b.pegs m _ ∙ t.forty;
  sixteen = t.sixteen;
  pegs = kept_by_set (SlotSound PegFine) b.pegs m _ t.pegs (empty_sound PegFine s w.sequenced.1);
  fixed = t.fixed;
}
written_sound (Fix m s st l h) b w t = record {
  forty = t.forty;
  sixteen = length-set b.fixed m _ ∙ t.sixteen;
  pegs = t.pegs;
  fixed = kept_by_set (SlotSound FixedLevelFine) b.fixed m _ t.fixed (held_sound FixedLevelFine s (record { station = st; low = l; high = h }) w.sequenced.0 w.sequenced.1 (w.near, w.ordered, w.low.1));
}
written_sound (Clear m s) b w t = record {
  forty = t.forty;
  sixteen = length-set b.fixed m _ ∙ t.sixteen;
  pegs = t.pegs;
  fixed = kept_by_set (SlotSound FixedLevelFine) b.fixed m _ t.fixed (empty_sound FixedLevelFine s w.sequenced.1);
}

-- after an edit, taken or refused
pub edited_sound : (e : Edit) (b a : Tables) (r : Result (Unit {0}) EditRefusal) → Edited e b a r → TablesSound b → TablesSound a
edited_sound e b a (Ok u) h t = subst TablesSound (sym h.2) (written_sound e b h.0 t)
edited_sound e b a (Err x) h t = subst TablesSound (sym h.1) t

-- what a profile's tables are known by
pub sound_of : (p : Profile) → TablesSound p.tables
sound_of p = record {
  forty = p.forty;
  sixteen = p.sixteen;
  pegs = λ n. record { fine = p.pegs_fine n; fit = p.pegs_fit n; untouched_empty = p.pegs_untouched n };
  fixed = λ n. record { fine = p.fixed_fine n; fit = p.fixed_fit n; untouched_empty = p.fixed_untouched n };
}

-- the same fact by fact, as a profile keeps them
pub parts : (t : Tables) → TablesSound t
    → record {
      forty : length t.pegs ≡ 40;
      sixteen : length t.fixed ≡ 16;
      pegs_fine : PegsFine t;
      fixed_fine : FixedFine t;
      pegs_fit : PegsFit t;
      fixed_fit : FixedFit t;
      pegs_untouched : PegsUntouched t;
      fixed_untouched : FixedUntouched t;
    }
parts t s = record {
  forty = s.forty;
  sixteen = s.sixteen;
  pegs_fine = λ n. (s.pegs n).fine;
  fixed_fine = λ n. (s.fixed n).fine;
  pegs_fit = λ n. (s.pegs n).fit;
  fixed_fit = λ n. (s.fixed n).fit;
  pegs_untouched = λ n. (s.pegs n).untouched_empty;
  fixed_untouched = λ n. (s.fixed n).untouched_empty;
}

-- an option without a value
pub nothing_held : {V : Type 0} (o : Option V) → is_some o ≡ false → o ≡ None
nothing_held None e = refl
nothing_held (Some x) e = let z : ◌≡◌ {A = ℕ} 0 1 = cc in absurd (omega arith)
