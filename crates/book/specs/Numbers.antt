-- How a number stands in bytes, and why none stands at a place. Assumes nothing.
use Rattle.std.specs.Prelude.{◌≡◌, ℕ, zero, suc, ◌+◌, ◌/◌, ◌%◌, ◌^◌, ◌<◌, ◌≤◌, cond, ◌⊎◌, List, [], ◌∷◌, ◌++◌, length, take, drop, Ok, Err, Result, nat_lt, slice_index}
use Rattle.book.specs.declared.fault.NumberKind.{NumberKind}
use Rattle.book.specs.declared.fault.NumberKind.TheVariants.{Cut, Long, Large}
use Rattle.book.specs.declared.fault.NumberFault.{NumberFault}
use Rattle.book.specs.declared.cursor.Cursor.{Cursor}

-- at most f groups of seven bits, lowest first, with the top bit on all but the last
unfoldable pub groups : ℕ → ℕ → List ℕ
groups zero n = []
groups (suc f) n = cond (nat_lt n 128) (n ∷ []) ((128 + n % 128) ∷ groups f (n / 128))

-- a number's bytes: five groups hold 32 bits
abbrev pub number : ℕ → List ℕ
number n = groups 5 n

-- xs with ys written over it from a place on
abbrev pub put : List ℕ → ℕ → List ℕ → List ℕ
put xs at ys = take at xs ++ (ys ++ drop (at + length ys) xs)

-- xs with ys written over its front
abbrev pub over : List ℕ → List ℕ → List ℕ
over xs ys = ys ++ drop (length ys) xs

-- ys stand in the bytes from a place up to another
pub record Stands (bs : List ℕ) (from : ℕ) (ys : List ℕ) (to : ℕ) : Type 0 where
  pub bytes : drop from bs ≡ ys ++ drop to bs
  pub end : to ≡ from + length ys
  pub within : to ≤ length bs

-- the k bytes from a place on have the top bit set
abbrev pub Tops : List ℕ → ℕ → ℕ → Type 0
Tops bs at k = (j : ℕ) → j < k → 128 ≤ slice_index bs (at + j)

-- why no number stands at a place: the bytes end, the last group is an idle 0, or it is above 32 bits
abbrev pub NoNumber : List ℕ → ℕ → NumberKind → Type 0
NoNumber bs at Cut = (k : ℕ) × (k < 5) × (length bs ≤ at + k) × Tops bs at k
NoNumber bs at Long = (k : ℕ) × (0 < k) × (k < 5) × (at + k < length bs) × Tops bs at k × (slice_index bs (at + k) ≡ 0)
NoNumber bs at Large = (Tops bs at 5 × (at + 5 ≤ length bs)) ⊎ ((n : ℕ) × (to : ℕ) × (2 ^ 32 ≤ n) × (n < 2 ^ 35) × Stands bs at (number n) to)

-- a cursor has passed ys
pub record Passed (a b : Cursor) (ys : List ℕ) : Type 0 where
  pub same : b.bytes.now ≡ a.bytes.now
  pub stands : Stands a.bytes.now a.at ys b.at

-- the number that stands at a cursor is passed, or why none stands there is told
abbrev pub Taken : Cursor → Cursor → Result ℕ NumberFault → Type 0
Taken a b (Ok n) = Passed a b (number n)
Taken a b (Err x) = (x.place ≡ a.at) × NoNumber a.bytes.now a.at x.kind
