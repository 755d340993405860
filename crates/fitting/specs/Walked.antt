-- What the filling of rows and the walk along them keep. Assumes nothing.
use Rattle.std.specs.Prelude.{◌≡◌, ℕ, ◌+◌, ◌*◌, ◌/◌, ◌<◌, ◌≤◌, List, length, take, sum}
use Rattle.pegs.specs.declared.peg.FixedLevel.{FixedLevel}
use Rattle.pegs.specs.declared.slot.Slot.{Slot}
use Rattle.fitting.specs.declared.alignment.Standing.{Standing}
use Rattle.fitting.specs.Rows.{entry, none}
use Rattle.fitting.specs.Rules.{Apart, FixedKept, Meets, PegKeeps, StretchKeeps, Verdicts, len}

-- the lengths l and r of its two pegs may stand on the i-th stretch
abbrev pub Joins : List Standing → List (Slot FixedLevel) → (i l r : ℕ) → Type 0
Joins ps fixed i l r = Apart ps i l r × ((n : ℕ) → FixedKept ps fixed i l r n)

-- in the row of the last peg only the length 0 has a total
abbrev pub EndsFlat : List Standing → (row : ℕ → ℕ) → ℕ → Type 0
EndsFlat ps row t = t + 1 ≡ length ps → (k : ℕ) → k < 401 → row k < none → k ≡ 0

-- of the first n entries of the row after the peg t, m is the least whose length may stand after l; `none` where there is no such total
pub record LeastJoined (ps : List Standing) (fixed : List (Slot FixedLevel)) (next : ℕ → ℕ) (t l n m : ℕ) : Type 0 where
  pub most : m ≤ none
  pub found : m < none → (j : ℕ) × (j < n) × Joins ps fixed t l (5 * j) × (next j ≡ m)
  pub least : (j : ℕ) → j < n → Joins ps fixed t l (5 * j) → m ≤ next j

-- some length has a total in the row
abbrev pub RowOpen : (row : ℕ → ℕ) → Type 0
RowOpen row = (k : ℕ) × (k < 401) × (row k < none)

-- the entry k of the row after the peg t is the total `goal`, and its length may stand after l
abbrev pub Leads : List Standing → List (Slot FixedLevel) → (next : ℕ → ℕ) → (t l goal k : ℕ) → Type 0
Leads ps fixed next t l goal k = Joins ps fixed t l (5 * k) × (next k ≡ goal)

-- k is the first entry that leads on
pub record Picked (ps : List Standing) (fixed : List (Slot FixedLevel)) (next : ℕ → ℕ) (t l goal k : ℕ) : Type 0 where
  pub below : k < 401
  pub leads : Leads ps fixed next t l goal k
  pub first : (j : ℕ) → j < k → Leads ps fixed next t l goal j → ⊥

-- the pegs up to t have the lengths of the best: they keep every rule so far, what is left comes to the least total, and no others of that total come earlier
pub record Walked (c : Verdicts) (ps : List Standing) (fixed : List (Slot FixedLevel)) (store ls : List ℕ) (t : ℕ) : Type 0 where
  pub count : length ls ≡ length ps
  pub pegs : (i : ℕ) → i < t + 1 → PegKeeps c ps i (len ls i)
  pub stretches : (i : ℕ) → i < t → StretchKeeps c ps fixed i (len ls i) (len ls (i + 1))
  pub rest : sum (take t ls) + entry store t (len ls t / 5) ≡ entry store 0 0
  pub earlier : (ms : List ℕ) → Meets c ps fixed ms → sum ms ≡ entry store 0 0 → (i : ℕ) → i < t + 1 → ((j : ℕ) → j < i → len ls j ≡ len ms j) → len ls i ≤ len ms i
