-- The stricter of two codes. Assumes nothing.
use Rattle.std.specs.Prelude.{ℕ, cond, ◌==◌}

-- the first clause, or if that is 0 the second
abbrev pub stricter : ℕ → ℕ → ℕ
stricter a b = cond (a == 0) b a

-- the same of two verdicts, of grades (rise, run) or of curves (turn, length)
abbrev pub stricter_of : {X : Type 0} → (X → ℕ → ℕ) → (X → ℕ → ℕ) → X → ℕ → ℕ
stricter_of first second x n = stricter (first x n) (second x n)
