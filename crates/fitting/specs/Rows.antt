-- What a row of the working store means: 401 least totals, one for each length of its peg. Assumes nothing.
use Rattle.std.specs.Prelude.{◌≡◌, ℕ, ◌+◌, ◌*◌, ◌<◌, ◌≤◌, List, length, drop, sum, slice_index}
use Rattle.pegs.specs.declared.peg.FixedLevel.{FixedLevel}
use Rattle.pegs.specs.declared.slot.Slot.{Slot}
use Rattle.fitting.specs.declared.alignment.Standing.{Standing}
use Rattle.fitting.specs.Rules.{MeetsFrom, Verdicts, len}

-- stands in the place of a total where there is none
abbrev pub none : ℕ
none = 4294967295

-- e is the least total of lengths from the peg t on that keep every rule there, where t itself has the length 5 k; `none` where there are no such lengths
pub record LeastFrom (c : Verdicts) (ps : List Standing) (fixed : List (Slot FixedLevel)) (t k e : ℕ) : Type 0 where
  pub found : e < none → (ls : List ℕ) × MeetsFrom c ps fixed t ls × (len ls t ≡ 5 * k) × (sum (drop t ls) ≡ e)
  pub least : (ls : List ℕ) → MeetsFrom c ps fixed t ls → len ls t ≡ 5 * k → e ≤ sum (drop t ls)

-- a row of the peg t: entry k is the least total from there on with the length 5 k
abbrev pub RowMeans : Verdicts → List Standing → List (Slot FixedLevel) → (row : ℕ → ℕ) → ℕ → Type 0
RowMeans c ps fixed row t = (k : ℕ) → k < 401 → LeastFrom c ps fixed t k (row k)

-- entry k of the row of the peg t in the store
abbrev pub entry : List ℕ → (t k : ℕ) → ℕ
entry store t k = slice_index store (t * 401 + k)

-- the rows from the peg t on
abbrev pub RowsFrom : Verdicts → List Standing → List (Slot FixedLevel) → List ℕ → ℕ → Type 0
RowsFrom c ps fixed store t = (u : ℕ) → t ≤ u → u < length ps → RowMeans c ps fixed (entry store u) u
