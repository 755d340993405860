-- One number is read where one stands, and two are written as one row of bytes. Assumes nothing.
use Rattle.std.proofs.Common.{◌≡◌, ℕ, ◌+◌, ◌≤◌, List, length, drop, Ok, Err, Result, sym, ap, ◌∙◌, arith, length-append}
use Rattle.book.specs.declared.fault.NumberFault.{NumberFault}
use Rattle.book.specs.declared.number.Read.{Read}
use Rattle.book.specs.Numbers.{number, put}
use Rattle.book.specs.Pairs.{ExactlyRead, NumberRead, pair}
use Rattle.book.proofs.Apart.{number_apart, stands_so}
use Rattle.book.proofs.Writes.{put-put}

pub exactly : (bs : List ℕ) (at : ℕ) (r : Result Read NumberFault) → NumberRead bs at r → ExactlyRead bs at r
exactly bs at (Ok x) a n to h s =
    let v : x.value ≡ n = (number_apart x.value n (drop x.end bs) (drop to bs) (omega (arith, a.0)) (omega arith) (sym a.1.bytes ∙ s.bytes)).0 in
    let e : x.end ≡ to = a.1.end ∙ ap (λ (m : ℕ). at + length (number m)) v ∙ sym s.end in
    λ i. Ok (record { value = v i; end = e i })
exactly bs at (Err x) a n to h s = absurd (stands_so bs at n (drop to bs) (omega arith) s.bytes h x.kind a.1)

-- a number written after another
pub second : (before : List ℕ) (at a b middle end : ℕ) (mid after : List ℕ) → at + (length (number a) + length (number b)) ≤ length before
    → middle ≡ at + length (number a) → end ≡ middle + length (number b) → mid ≡ put before at (number a) → after ≡ put mid middle (number b)
    → (end ≡ at + length (pair a b)) × (end ≤ length before) × (after ≡ put before at (pair a b))
second before at a b middle end mid after room m e x y =
    let l = length-append (number a) (number b) in
    (omega (arith, l), omega (arith, l), y ∙ rw (x, m) (put-put before at (number a) (number b) (omega arith)))
