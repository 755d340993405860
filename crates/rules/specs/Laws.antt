-- What callers may expect of verdicts on curves. Assumes nothing.
use Rattle.std.specs.Prelude.{◌≡◌, ℕ, ◌≤◌}
use Rattle.rules.specs.declared.turn.Bend.{Bend}

-- a curve that passes at some length passes at every longer one
abbrev pub LongerStillPasses : (Bend → ℕ → ℕ) → Type 0
LongerStillPasses verdict = (b : Bend) (l m : ℕ) → l ≤ m → verdict b l ≡ 0 → verdict b m ≡ 0

-- a verdict, of grades or of curves, that passes exactly what two others both pass
pub record PassesBoth {X : Type 0} (first second both : X → ℕ → ℕ) : Type 0 where
  pub only : (x : X) (n : ℕ) → both x n ≡ 0 → (first x n ≡ 0) × (second x n ≡ 0)
  pub all : (x : X) (n : ℕ) → first x n ≡ 0 → second x n ≡ 0 → both x n ≡ 0
