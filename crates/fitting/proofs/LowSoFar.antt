-- The least entry so far, with one entry more. Assumes nothing.
use Rattle.std.proofs.Common.{ℕ, ◌+◌, ◌*◌, ◌<◌, ◌≤◌, List, sym, subst, inl, inr, arith}
use Rattle.std.proofs.lemmas.Bool.{cases_eq}
use Rattle.pegs.specs.declared.peg.FixedLevel.{FixedLevel}
use Rattle.pegs.specs.declared.slot.Slot.{Slot}
use Rattle.fitting.specs.declared.alignment.Standing.{Standing}
use Rattle.fitting.specs.Walked.{Joins, LeastJoined}

module _ (ps : List Standing) (fixed : List (Slot FixedLevel)) (next : ℕ → ℕ) (t l n m : ℕ) (w : LeastJoined ps fixed next t l n m) where
  -- an entry that isn't smaller, or may not stand there, changes nothing
  pub low_stays : (Joins ps fixed t l (5 * n) → m ≤ next n) → LeastJoined ps fixed next t l (n + 1) m
  low_stays h = record {
    most = w.most;
    found = λ f. let j = w.found f in (j.0, omega (arith, j.1), j.2, j.3);
    least = λ j b joins. elim (cases_eq j n) [
      | inl e ↦ subst (λ z. m ≤ next z) (sym e) (h (subst (λ z. Joins ps fixed t l (5 * z)) e joins))
      | inr ne ↦ w.least j (omega arith) joins
    ];
  }

  -- a smaller one that may stand there is the least
  pub low_falls : next n < m → Joins ps fixed t l (5 * n) → LeastJoined ps fixed next t l (n + 1) (next n)
  low_falls less joins = record {
    most = omega (arith, w.most);
    found = λ f. (n, omega arith, joins, omega arith);
    least = λ j b other. elim (cases_eq j n) [
      | inl e ↦ subst (λ z. next n ≤ next z) (sym e) (omega arith)
      | inr ne ↦ omega (arith, w.least j (omega arith) other)
    ];
  }
