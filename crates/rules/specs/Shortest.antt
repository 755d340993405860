-- The shortest length that passes, of the multiples of five up to 2,000. Assumes nothing.
use Rattle.std.specs.Prelude.{◌≡◌, ℕ, ◌%◌, ◌<◌, ◌≤◌, ◌≢◌}

-- no length below this one passes
abbrev pub NoneBelow : (ℕ → ℕ) → ℕ → Type 0
NoneBelow verdict l = (m : ℕ) → m % 5 ≡ 0 → m < l → verdict m ≢ 0

-- it passes, and no shorter one does
pub record ShortestPassing (verdict : ℕ → ℕ) (l : ℕ) : Type 0 where
  pub passes : verdict l ≡ 0
  pub shorter : NoneBelow verdict l

-- no length passes
abbrev pub NonePasses : (ℕ → ℕ) → Type 0
NonePasses verdict = (m : ℕ) → m % 5 ≡ 0 → m ≤ 2000 → verdict m ≢ 0
