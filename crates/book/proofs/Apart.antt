-- Bytes begin with one number at most. Assumes nothing.
use Rattle.std.proofs.Common.{◌≡◌, ℕ, zero, suc, ◌+◌, ◌-◌, ◌*◌, ◌/◌, ◌%◌, ◌^◌, ◌<◌, ◌≤◌, List, [], ◌∷◌, ◌++◌, length, get_or, drop, sym, refl, ap, ◌∙◌, ⊎_elim, arith, length-append, length-drop}
use Rattle.std.proofs.lemmas.Bool.{cases_lt, cases_order}
use Rattle.std.proofs.lemmas.Nat.{pow-add, div_below}
use Rattle.std.proofs.lemmas.List.{get_or-drop, get_or_append_left}
use Rattle.book.specs.declared.fault.NumberKind.{NumberKind}
use Rattle.book.specs.declared.fault.NumberKind.TheVariants.{Cut, Long, Large}
use Rattle.book.specs.Numbers.{groups, number, Tops, NoNumber}
use Rattle.book.proofs.Groups.{one, more}

head_of : (x y : ℕ) (xs ys : List ℕ) → x ∷ xs ≡ y ∷ ys → x ≡ y
head_of x y xs ys e = cc

tail_of : (x y : ℕ) (xs ys : List ℕ) → x ∷ xs ≡ y ∷ ys → xs ≡ ys
tail_of x y xs ys e = cc

pub halved : (f n : ℕ) → n < 2 ^ (7 * suc f) → n / 128 < 2 ^ (7 * f)
halved f n h =
    let p : 7 * suc f ≡ 7 * f + 7 = omega arith in
    let q : 2 ^ (7 * suc f) ≡ 2 ^ (7 * f) * 128 = rw (p, pow-add 2 (7 * f) 7) refl in
    div_below n 128 (2 ^ (7 * f)) (omega arith) (rw q at h)

nothing : (n : ℕ) → groups 0 n ≡ []
unfolding groups
nothing n = refl

pub groups_apart : (f n m : ℕ) (xs ys : List ℕ) → n < 2 ^ (7 * f) → m < 2 ^ (7 * f) → groups f n ++ xs ≡ groups f m ++ ys → (n ≡ m) × (xs ≡ ys)
groups_apart zero n m xs ys h k e = (omega arith, rw (nothing n, nothing m) at e)
groups_apart (suc f) n m xs ys h k e =
    ⊎_elim
    (λ (a : n < 128). ⊎_elim
    (λ (b : m < 128).
    let g : n ∷ xs ≡ m ∷ ys = rw (one f n a, one f m b) at e in
    (head_of n m xs ys g, tail_of n m xs ys g))
    (λ (b : 128 ≤ m).
    let g : n ∷ xs ≡ (128 + m % 128) ∷ (groups f (m / 128) ++ ys) = rw (one f n a, more f m b) at e in
    absurd (omega (arith, head_of n (128 + m % 128) xs (groups f (m / 128) ++ ys) g)))
    (cases_lt m 128))
    (λ (a : 128 ≤ n). ⊎_elim
    (λ (b : m < 128).
    let g : (128 + n % 128) ∷ (groups f (n / 128) ++ xs) ≡ m ∷ ys = rw (more f n a, one f m b) at e in
    absurd (omega (arith, head_of (128 + n % 128) m (groups f (n / 128) ++ xs) ys g)))
    (λ (b : 128 ≤ m).
    let g : (128 + n % 128) ∷ (groups f (n / 128) ++ xs) ≡ (128 + m % 128) ∷ (groups f (m / 128) ++ ys) = rw (more f n a, more f m b) at e in
    let i = groups_apart f (n / 128) (m / 128) xs ys (halved f n h) (halved f m k) (tail_of (128 + n % 128) (128 + m % 128) (groups f (n / 128) ++ xs) (groups f (m / 128) ++ ys) g) in
    (omega (arith, i.0, head_of (128 + n % 128) (128 + m % 128) (groups f (n / 128) ++ xs) (groups f (m / 128) ++ ys) g), i.1))
    (cases_lt m 128))
    (cases_lt n 128)

pub number_apart : (n m : ℕ) (xs ys : List ℕ) → n < 2 ^ 35 → m < 2 ^ 35 → number n ++ xs ≡ number m ++ ys → (n ≡ m) × (xs ≡ ys)
number_apart n m xs ys h k e = groups_apart 5 n m xs ys h k e

-- the bytes of a number: k with the top bit, and one without, which is 0 only alone
pub record Shape (n : ℕ) (bs : List ℕ) (most : ℕ) : Type 0 where
  pub k : ℕ
  pub few : k < most
  pub long : length bs ≡ k + 1
  pub tops : (j : ℕ) → j < k → 128 ≤ get_or bs j 0
  pub end : get_or bs k 0 < 128
  pub some : 0 < n → 0 < get_or bs k 0
  pub big : 0 < k → 0 < n

single : (f n : ℕ) → n < 128 → Shape n (groups (suc f) n) (suc f)
single f n a =
    rw (one f n a)
    (record { k = 0; few = omega arith; long = refl; tops = λ j l. absurd (omega arith); end = a; some = λ h. h; big = λ l. absurd (omega arith) })

longer_tops : (x : ℕ) (bs : List ℕ) (k : ℕ) → 128 ≤ x → ((j : ℕ) → j < k → 128 ≤ get_or bs j 0) → (j : ℕ) → j < suc k → 128 ≤ get_or (x ∷ bs) j 0
longer_tops x bs k h t zero l = h
longer_tops x bs k h t (suc j) l = t j (omega arith)

longer : (n x : ℕ) (bs : List ℕ) (most : ℕ) → 128 ≤ n → 128 ≤ x → Shape (n / 128) bs most → Shape n (x ∷ bs) (suc most)
longer n x bs most b h s =
    record {
      k = suc s.k;
      few = omega (arith, s.few);
      long = omega (arith, s.long);
      tops = longer_tops x bs s.k h s.tops;
      end = s.end;
      some = λ _. s.some (omega arith);
      big = λ _. omega arith;
    }

pub shape : (f n : ℕ) → n < 2 ^ (7 * suc f) → Shape n (groups (suc f) n) (suc f)
shape zero n h = single 0 n h
shape (suc f) n h =
    ⊎_elim (λ (a : n < 128). single (suc f) n a)
    (λ (a : 128 ≤ n). rw (more (suc f) n a) (longer n (128 + n % 128) (groups (suc f) (n / 128)) (suc f) a (omega arith) (shape f (n / 128) (halved (suc f) n h))))
    (cases_lt n 128)

-- where a number stands, there is no reason why none does
module _ (bs : List ℕ) (p n : ℕ) (rest : List ℕ) (h : n < 2 ^ 35) (e : drop p bs ≡ number n ++ rest) where
  s : Shape n (number n) 5
  s = shape 4 n h

  at : (j : ℕ) → j < length (number n) → get_or bs (p + j) 0 ≡ get_or (number n) j 0
  at j l = sym (get_or-drop p bs j 0) ∙ (ap (λ xs. get_or xs j 0) e ∙ get_or_append_left (number n) rest 0 j l)

  long : s.k + 1 + length rest ≡ length bs - p
  long = omega (arith, s.long, ap length e, length-drop p bs, length-append (number n) rest)

  no_top : (k : ℕ) → s.k < k → Tops bs p k → ⊥
  no_top k l t = omega (arith, t s.k l, at s.k (omega (arith, s.long)), s.end)

  no_tops : Tops bs p 5 → ⊥
  no_tops t = no_top 5 s.few t

  no_cut : NoNumber bs p Cut → ⊥
  no_cut (k, few, short, tops) = no_top k (omega (arith, long)) tops

  no_long : NoNumber bs p Long → ⊥
  no_long (k, pos, few, inside, tops, zeroed) =
      ⊎_elim
      (λ (q : k ≡ s.k). omega (arith, s.some (s.big (omega arith)), at s.k (omega (arith, s.long)), rw q at zeroed))
      (⊎_elim
      (λ (q : k < s.k). omega (arith, s.tops k q, at k (omega (arith, s.long)), zeroed))
      (λ (q : s.k < k). no_top k q tops))
      (cases_order k s.k)

  pub stands_so : n < 2 ^ 32 → (x : NumberKind) → NoNumber bs p x → ⊥
  stands_so l Cut x = no_cut x
  stands_so l Long x = no_long x
  stands_so l Large x = ⊎_elim (λ t. no_tops t.0) (λ t. omega (arith, (number_apart t.0 n (drop t.1 bs) rest t.3 h (sym t.4.bytes ∙ e)).0, t.2)) x

-- there is one reason at most
cut_long : (bs : List ℕ) (p : ℕ) → NoNumber bs p Cut → NoNumber bs p Long → ⊥
cut_long bs p (k, few, short, tops) (j, pos, less, inside, more, zeroed) = omega (arith, tops j (omega arith), zeroed)

cut_large : (bs : List ℕ) (p : ℕ) → NoNumber bs p Cut → NoNumber bs p Large → ⊥
cut_large bs p c x = ⊎_elim (λ t. omega (arith, c.1, c.2, t.1)) (λ t. no_cut bs p t.0 (drop t.1 bs) t.3 t.4.bytes c) x

long_large : (bs : List ℕ) (p : ℕ) → NoNumber bs p Long → NoNumber bs p Large → ⊥
long_large bs p c x = ⊎_elim (λ t. omega (arith, t.0 c.0 c.2, c.5)) (λ t. no_long bs p t.0 (drop t.1 bs) t.3 t.4.bytes c) x

pub one_reason : (bs : List ℕ) (p : ℕ) (x y : NumberKind) → NoNumber bs p x → NoNumber bs p y → x ≡ y
one_reason bs p Cut Cut a b = refl
one_reason bs p Cut Long a b = absurd (cut_long bs p a b)
one_reason bs p Cut Large a b = absurd (cut_large bs p a b)
one_reason bs p Long Cut a b = absurd (cut_long bs p b a)
one_reason bs p Long Long a b = refl
one_reason bs p Long Large a b = absurd (long_large bs p a b)
one_reason bs p Large Cut a b = absurd (cut_large bs p b a)
one_reason bs p Large Long a b = absurd (long_large bs p b a)
one_reason bs p Large Large a b = refl
