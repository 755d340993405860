use Rattle.std.proofs.Common.{ℕ, List, slice_index, take, sym, refl, subst, arith}
use Rattle.std.proofs.lemmas.List.{get_or-take, length-take-le}
use Rattle.pegs.specs.declared.peg.FixedLevel.{FixedLevel}
use Rattle.pegs.specs.declared.slot.Slot.{Slot}
use Rattle.fitting.specs.declared.alignment.Standing.{Standing}
use Rattle.fitting.specs.Rows.{LeastFrom, RowMeans}
use Rattle.fitting.specs.Rules.{Verdicts}
use Rattle.fitting.proofs.Entries.{ends_flat, least_last, least_more}
use Rattle.fitting.proofs.passed.PassedLine.entry_of.Goals as goal

-- the first 401 of the words after a row mean what those words do
next_means : (c : Verdicts) (ps : List Standing) (fixed : List (Slot FixedLevel)) (after : List ℕ) (u : ℕ) → RowMeans c ps fixed (slice_index after) u → RowMeans c ps fixed (slice_index (take 401 after)) u
next_means c ps fixed after u means k low = subst (LeastFrom c ps fixed u k) (sym (get_or-take 401 after k 0 low)) (means k low)

pub slice_bounds-least_after-end : goal.slice_bounds-least_after-end
slice_bounds-least_after-end g c = sym (length-take-le 401 c.args.after.now (c.requires.after (omega arith)).0)

pub least_after-requires-clause-count : goal.least_after-requires-clause-count
least_after-requires-clause-count g c = length-take-le 401 c.args.after.now (c.requires.after (omega arith)).0

pub least_after-requires-clause-flat : goal.least_after-requires-clause-flat
least_after-requires-clause-flat g c = ends_flat _ _ _ (slice_index (take 401 c.args.after.now)) _ (next_means _ _ _ _ _ (c.requires.after (omega arith)).1)

pub returns-then-t-self : goal.returns-then-t-self
returns-then-t-self g c = least_last _ _ _ _ _ c.if-t-self.true (c.if-not-peg_keeps.ensures.0 refl)

pub returns : goal.returns
returns g c =
    least_more _ _ _ (slice_index (take 401 c.args.after.now)) _ _ _ _ (omega arith) (c.args.self.now.grades _ (omega arith)) (c.if-not-peg_keeps.ensures.0 refl) (next_means _ _ _ _ _ (c.requires.after (omega arith)).1) c.least_after.ensures c.saturating_add.ensures
