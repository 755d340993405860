-- What is written, and what is left to write. Assumes nothing.
use Rattle.std.proofs.Common.{◌≡◌, ℕ, ◌+◌, ◌-◌, ◌<◌, ◌≤◌, List, [], ◌∷◌, ◌++◌, length, get_or, take, drop, sym, refl, ap, ◌∙◌, append_assoc, add-zero, add_assoc, arith, length-append, length-drop}
use Rattle.std.proofs.lemmas.List.{append-nil, take-append-drop, take_all, drop_all, drop_more, drop-drop, drop_at, take_at, length-take-le}
use Rattle.std.specs.List.{sum_by}
use Rattle.std.proofs.lemmas.List.Sums.{sum_by-cons}
use Rattle.book.specs.Book.{written}
use Rattle.book.specs.Numbers.{number, over, put}
use Rattle.book.proofs.Paths.{written-append}

pub length-written : (n : ℕ) (ns : List ℕ) → length (written (n ∷ ns)) ≡ length (number n) + length (written ns)
unfolding written
length-written n ns = length-append (number n) (written ns)

pub length_both : (ns ms : List ℕ) → length (written (ns ++ ms)) ≡ length (written ns) + length (written ms)
length_both ns ms = ap length (written-append ns ms) ∙ length-append (written ns) (written ms)

pub length_none : length (written []) ≡ 0
unfolding written
length_none = refl

pub length_sum : (ns : List ℕ) → length (written ns) ≡ sum_by (λ n. length (number n)) ns
length_sum [] = length_none
length_sum (n ∷ ns) = omega (arith, length-written n ns, length_sum ns, sum_by-cons (λ n. length (number n)) n ns)

-- a write after a write
pub put-put : (xs : List ℕ) (at : ℕ) (ys zs : List ℕ) → at + length ys ≤ length xs → put (put xs at ys) (at + length ys) zs ≡ put xs at (ys ++ zs)
put-put xs at ys zs h =
    let l : length (take at xs) ≡ at = length-take-le at xs (omega arith) in
    let m : length (take at xs ++ ys) ≡ at + length ys = length-append (take at xs) ys ∙ rw l refl in
    let front : take (at + length ys) (put xs at ys) ≡ take at xs ++ ys = rw (← append_assoc (take at xs) ys (drop (at + length ys) xs)) (take_at (take at xs ++ ys) (drop (at + length ys) xs) (at + length ys) m) in
    let back : drop (at + length ys + length zs) (put xs at ys) ≡ drop (at + length (ys ++ zs)) xs =
    rw (← append_assoc (take at xs) ys (drop (at + length ys) xs), ← drop-drop (length zs) (at + length ys) (take at xs ++ ys ++ drop (at + length ys) xs), drop_at (take at xs ++ ys) (drop (at + length ys) xs) (at + length ys) m, drop-drop, length-append ys zs, add_assoc) refl in
    rw (front, back, append_assoc (take at xs) ys (zs ++ drop (at + length (ys ++ zs)) xs), append_assoc ys zs (drop (at + length (ys ++ zs)) xs)) refl

put_none : (xs : List ℕ) (at : ℕ) → put xs at [] ≡ xs
put_none xs at = rw add-zero (take-append-drop at xs)

put_front : (xs ys : List ℕ) → put xs 0 ys ≡ over xs ys
put_front xs ys = let z : 0 + length ys ≡ length ys = omega arith in rw z refl

-- a write over the front of the part from a place on
module _ (xs : List ℕ) (at : ℕ) (h : at ≤ length xs) where
  part : take (length xs - at) (drop at xs) ≡ drop at xs
  part = take_all (length xs - at) (drop at xs) (omega (arith, length-drop at xs))

  pub length_part : length (take (length xs - at) (drop at xs)) ≡ length xs - at
  length_part = ap length part ∙ length-drop at xs

  pub put_part : (ys new : List ℕ) → new ≡ over (take (length xs - at) (drop at xs)) ys → take at xs ++ (new ++ drop (length xs - at) (drop at xs)) ≡ put xs at ys
  put_part ys new e = rw (e, part, drop_all (length xs - at) (drop at xs) (omega (arith, length-drop at xs)), append-nil, drop-drop) refl

-- what is left to write leads to the whole
pub record Leads (start whole out : List ℕ) (to : ℕ) (rest : List ℕ) : Type 0 where
  pub end : to + length rest ≡ length whole
  pub text : put out to rest ≡ over start whole

pub begin : (start whole : List ℕ) → Leads start whole start 0 whole
begin start whole = record { end = omega arith; text = put_front start whole }

ended : {start whole out : List ℕ} {to : ℕ} → Leads start whole out to [] → (to ≡ length whole) × (out ≡ over start whole)
ended {out = out} {to = to} g = (omega (arith, g.end), sym (put_none out to) ∙ g.text)

module _ {start whole out : List ℕ} {to : ℕ} {rest : List ℕ} (g : Leads start whole out to rest) where
  pub stop : rest ≡ [] → (to ≡ length whole) × (out ≡ over start whole)
  stop e = ended (rw e at g)

  -- the next of it, and what is left after that
  module _ (ys zs : List ℕ) (e : rest ≡ ys ++ zs) (fits : length whole ≤ length out) where
    inside : to + length ys ≤ length out
    inside = omega (arith, g.end, ap length e, length-append ys zs)

    pub room : length ys ≤ length (take (length out - to) (drop to out))
    room = omega (arith, inside, length_part out to (omega (arith, inside)))

    pub put_step : Leads start whole (put out to ys) (to + length ys) zs
    put_step = record { end = omega (arith, g.end, ap length e, length-append ys zs); text = put-put out to ys zs inside ∙ rw e at g.text }

    pub step : (new : List ℕ) (used : ℕ) → used ≡ length ys → new ≡ over (take (length out - to) (drop to out)) ys
        → Leads start whole (take to out ++ (new ++ drop (length out - to) (drop to out))) (to + used) zs
    step new used u w = rw (u, put_part out to (omega (arith, inside)) ys new w) put_step

  -- all that is left
  module _ (fits : length whole ≤ length out) where
    pub room_all : length rest ≤ length (take (length out - to) (drop to out))
    room_all = room rest [] (sym (append-nil rest)) fits

    pub finish : (new : List ℕ) (used : ℕ) → used ≡ length rest → new ≡ over (take (length out - to) (drop to out)) rest
        → (to + used ≡ length whole) × (take to out ++ (new ++ drop (length out - to) (drop to out)) ≡ over start whole)
    finish new used u w = let p : Leads start whole (take to out ++ (new ++ drop (length out - to) (drop to out))) (to + used) [] = step rest [] (sym (append-nil rest)) fits new used u w in ended p

-- the front of it, and what is left after that
pub first : (start whole out ys zs : List ℕ) (used : ℕ) → whole ≡ ys ++ zs → length whole ≤ length start → used ≡ length ys → out ≡ over start ys → Leads start whole out used zs
first start whole out ys zs used e fits u w =
    let z : 0 + length ys ≡ length ys = omega arith in
    let p : Leads start whole (put start 0 ys) (0 + length ys) zs = put_step (begin start whole) ys zs e fits in
    rw (u, w) (rw (put_front start ys, z) at p)

-- the numbers from the k-th on begin with it
pub next_number : (ns : List ℕ) (k : ℕ) → k < length ns → written (drop k ns) ≡ number (get_or ns k 0) ++ written (drop (k + 1) ns)
unfolding written
next_number ns k h = rw (drop_more ns k 0 h) refl

pub no_number : (ns : List ℕ) (k : ℕ) → length ns ≤ k → written (drop k ns) ≡ []
unfolding written
no_number ns k h = rw (drop_all k ns h) refl
