-- A whole number as one natural number less another. Assumes nothing.
use Rattle.std.proofs.Common.{◌≡◌, ℕ, ◌+◌, ◌*◌, ◌<◌, ◌≤◌, ℤ, pos, ◌+ℤ◌, ◌-ℤ◌, ◌*ℤ◌, ◌≤ℤ◌, ◌<ℤ◌, ap, arith}
use borrow.Author.Differences.{up, down}
use Rattle.std.proofs.lemmas.Int.{ints}

-- z is x less y
pub record Less (z : ℤ) (x y : ℕ) : Type 0 where
  pub less : up z + y ≡ x + down z

pub own : (z : ℤ) → Less z (up z) (down z)
own z = record { less = omega arith }

pub whole : (n : ℕ) → Less (pos n) n 0
whole n = record { less = omega arith }

pub sum : {z w : ℤ} {a b c d : ℕ} → Less z a b → Less w c d → Less (z +ℤ w) (a + c) (b + d)
sum f h = record { less = omega (arith, ints) }

pub difference : {z w : ℤ} {a b c d : ℕ} → Less z a b → Less w c d → Less (z -ℤ w) (a + d) (b + c)
difference f h = record { less = omega (arith, ints) }

pub times : {z : ℤ} {a b : ℕ} (n : ℕ) → Less z a b → Less (z *ℤ pos n) (a * n) (b * n)
times {z} {a} {b} n f = let e = ap (λ (x : ℕ). x * n) f.less in record { less = omega (arith, ints) }

-- what holds of the naturals holds of the whole numbers, and back
pub to_le : {z w : ℤ} {a b c d : ℕ} → Less z a b → Less w c d → a + d ≤ c + b → z ≤ℤ w
to_le f h l = omega (arith, ints)

pub from_le : {z w : ℤ} {a b c d : ℕ} → Less z a b → Less w c d → z ≤ℤ w → a + d ≤ c + b
from_le f h l = omega (arith, ints)

pub to_lt : {z w : ℤ} {a b c d : ℕ} → Less z a b → Less w c d → a + d < c + b → z <ℤ w
to_lt f h l = omega (arith, ints)

pub to_same : {z w : ℤ} {a b c d : ℕ} → Less z a b → Less w c d → a + d ≡ c + b → z ≡ w
to_same f h l = omega (arith, ints)

pub from_same : {z w : ℤ} {a b c d : ℕ} → Less z a b → Less w c d → z ≡ w → a + d ≡ c + b
from_same f h l = omega (arith, ints)
