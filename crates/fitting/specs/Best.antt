-- Which of the lengths that meet every rule are the best. Assumes nothing.
use Rattle.std.specs.Prelude.{◌≡◌, ℕ, ◌<◌, ◌≤◌, List, sum}
use Rattle.pegs.specs.declared.peg.FixedLevel.{FixedLevel}
use Rattle.pegs.specs.declared.slot.Slot.{Slot}
use Rattle.fitting.specs.declared.alignment.Standing.{Standing}
use Rattle.fitting.specs.Rules.{Meets, Verdicts, len}

-- at the first difference ls is the smaller: where the two agree up to a peg, ls is no longer than ms there
abbrev pub Earlier : List ℕ → List ℕ → Type 0
Earlier ls ms = (i : ℕ) → ((j : ℕ) → j < i → len ls j ≡ len ms j) → len ls i ≤ len ms i

-- they meet every rule, no others that do have a smaller total, and of equal totals they come first
pub record Best (c : Verdicts) (ps : List Standing) (fixed : List (Slot FixedLevel)) (ls : List ℕ) : Type 0 where
  pub meets : Meets c ps fixed ls
  pub least : (ms : List ℕ) → Meets c ps fixed ms → sum ls ≤ sum ms
  pub earliest : (ms : List ℕ) → Meets c ps fixed ms → sum ms ≡ sum ls → Earlier ls ms

-- two best lists are one
abbrev pub OneBest : Type 0
OneBest = (c : Verdicts) (ps : List Standing) (fixed : List (Slot FixedLevel)) (ls ms : List ℕ) → Best c ps fixed ls → Best c ps fixed ms → ls ≡ ms
