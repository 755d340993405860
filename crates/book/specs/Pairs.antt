-- What reading one number and writing two does. Assumes nothing.
use Rattle.std.specs.Prelude.{◌≡◌, ℕ, ◌+◌, ◌^◌, ◌<◌, ◌≤◌, List, ◌++◌, length, Ok, Err, Result}
use Rattle.book.specs.declared.fault.NumberFault.{NumberFault}
use Rattle.book.specs.declared.fault.TooShort.{TooShort}
use Rattle.book.specs.declared.number.Read.{Read}
use Rattle.book.specs.Numbers.{NoNumber, Stands, number, put}

-- the number of 32 bits that stands at a place is read, or why none does is told
abbrev pub NumberRead : List ℕ → ℕ → Result Read NumberFault → Type 0
NumberRead bs at (Ok r) = (r.value < 2 ^ 32) × Stands bs at (number r.value) r.end
NumberRead bs at (Err x) = (x.place ≡ at) × NoNumber bs at x.kind

-- a number of 32 bits that stands at a place, and no other, is what is read
abbrev pub ExactlyRead : List ℕ → ℕ → Result Read NumberFault → Type 0
ExactlyRead bs at r = (n to : ℕ) → n < 2 ^ 32 → Stands bs at (number n) to → r ≡ Ok (record { value = n; end = to })

-- two numbers, one after the other
abbrev pub pair : ℕ → ℕ → List ℕ
pair a b = number a ++ number b

-- two numbers stand at the place, and every other byte stays; or the room is too short for them, and all stays
abbrev pub PairWritten : List ℕ → ℕ → ℕ → ℕ → List ℕ → Result ℕ TooShort → Type 0
PairWritten before at a b after (Ok end) = (end ≡ at + length (pair a b)) × (end ≤ length before) × (after ≡ put before at (pair a b))
PairWritten before at a b after (Err _) = (length before < at + length (pair a b)) × (after ≡ before)
