-- Bytes have one first fault at most, and a book has none. Assumes nothing.
use Rattle.std.proofs.Common.{◌≡◌, ℕ, ◌^◌, ◌<◌, ◌≤◌, ◌⊎◌, List, [], ◌∷◌, ◌++◌, length, drop, Ok, Err, Result, sym, refl, ap, ◌∙◌, subst, inl, inr, ⊎_elim, append_assoc, arith, length-drop}
use Rattle.std.proofs.lemmas.List.{append-nil}
use Rattle.pegs.specs.declared.tables.Tables.{Tables}
use Rattle.book.specs.declared.fault.BookFault.{BookFault}
use Rattle.book.specs.declared.fault.NumberKind.{NumberKind}
use Rattle.book.specs.Book.{book_numbers, written}
use Rattle.book.specs.Numbers.{number, NoNumber}
use Rattle.book.specs.Reading.{Exact, Reads, Told}
use Rattle.book.specs.Wanted.{Fair, FirstFault, Misread, NumberAt, Reason, Want, Wrong, above, after, below, book_told, count, entry, field, form, least, most, nothing, size, unread}
use Rattle.book.proofs.Apart.{number_apart, one_reason, stands_so}
use Rattle.book.proofs.Laws.{fair_book, one_book_lem}

-- two ways from one place: one goes on where the other ends
meet : (w : Want) (ns : List ℕ) (v : Want) (ms : List ℕ) (u : Want) (xs ys : List ℕ) → Fair w ns v → Fair w ms u → written ns ++ xs ≡ written ms ++ ys
    → ((ks : List ℕ) × Fair v ks u × (xs ≡ written ks ++ ys)) ⊎ ((ks : List ℕ) × Fair u ks v × (ys ≡ written ks ++ xs))
unfolding Fair written
meet w [] v ms u xs ys f g e = inl (ms, rw f at g, e)
meet w (n ∷ ns) v [] u xs ys f g e = inr (n ∷ ns, rw g at f, sym e)
meet w (n ∷ ns) v (m ∷ ms) u xs ys f g e =
    let a = number_apart n m (written ns ++ xs) (written ms ++ ys) (omega (arith, f.2)) (omega (arith, g.2)) (sym (append_assoc (number n) (written ns) xs) ∙ (e ∙ append_assoc (number m) (written ms) ys)) in
    meet (after w n) ns v ms u xs ys f.3 (rw (← a.0) at g.3) a.1

module _ (bs : List ℕ) (p lo hi : ℕ) where
  -- no number as wanted stands where something is wrong
  misread_stops : (r : Reason) → Misread bs p lo hi r → (k : ℕ) (ys : List ℕ) → lo ≤ k → k ≤ hi → k < 2 ^ 32 → drop p bs ≡ number k ++ ys → ⊥
  misread_stops (unread x) h k ys a b l e = stands_so bs p k ys (omega arith) e l x h
  misread_stops above h k ys a b l e = omega (arith, h.has, (number_apart h.value k (drop h.to bs) ys (omega (arith, h.small)) (omega arith) (sym h.stands.bytes ∙ e)).0)
  misread_stops below h k ys a b l e = omega (arith, h.has.1, (number_apart h.value k (drop h.to bs) ys (omega (arith, h.small)) (omega arith) (sym h.stands.bytes ∙ e)).0)

  not_both : (Has : ℕ → Type 0) (x : NumberKind) → NoNumber bs p x → NumberAt bs p Has → ⊥
  not_both Has x h u = stands_so bs p u.value (drop u.to bs) (omega (arith, u.small)) u.stands.bytes u.small x h

  not_sides : NumberAt bs p (λ n. hi < n) → NumberAt bs p (λ n. (n ≤ hi) × (n < lo)) → ⊥
  not_sides a b =
      omega (arith, a.has, b.has.0, (number_apart a.value b.value (drop a.to bs) (drop b.to bs) (omega (arith, a.small)) (omega (arith, b.small)) (sym a.stands.bytes ∙ b.stands.bytes)).0)

  same_reason : (r s : Reason) → Misread bs p lo hi r → Misread bs p lo hi s → r ≡ s
  same_reason (unread x) (unread y) h g = ap unread (one_reason bs p x y h g)
  same_reason (unread x) above h g = absurd (not_both (λ n. hi < n) x h g)
  same_reason (unread x) below h g = absurd (not_both (λ n. (n ≤ hi) × (n < lo)) x h g)
  same_reason above (unread y) h g = absurd (not_both (λ n. hi < n) y g h)
  same_reason above above h g = refl
  same_reason above below h g = absurd (not_sides h g)
  same_reason below (unread y) h g = absurd (not_both (λ n. (n ≤ hi) × (n < lo)) y g h)
  same_reason below above h g = absurd (not_sides g h)
  same_reason below below h g = refl

stops : (bs : List ℕ) (p : ℕ) (w : Want) (r : Reason) → Wrong bs p w r → (k : ℕ) (ys : List ℕ) → least w ≤ k → k ≤ most w → k < 2 ^ 32 → drop p bs ≡ number k ++ ys → ⊥
stops bs p form r h k ys a b l e = misread_stops bs p 1 1 r h k ys a b l e
stops bs p (count t) r h k ys a b l e = misread_stops bs p 0 (size t) r h k ys a b l e
stops bs p (entry t left lowest part) r h k ys a b l e = misread_stops bs p (field t lowest part).least (field t lowest part).most r h k ys a b l e
stops bs p nothing r h k ys a b l e = omega arith

same_told : (bs : List ℕ) (p : ℕ) (w : Want) (r s : Reason) → Wrong bs p w r → Wrong bs p w s → book_told w p r ≡ book_told w p s
same_told bs p form r s h g = ap (book_told form p) (same_reason bs p 1 1 r s h g)
same_told bs p (count t) r s h g = ap (book_told (count t) p) (same_reason bs p 0 (size t) r s h g)
same_told bs p (entry t left lowest part) r s h g = ap (book_told (entry t left lowest part) p) (same_reason bs p (field t lowest part).least (field t lowest part).most r s h g)
same_told bs p nothing r s h g = refl

-- where one way ends at a fault, the other ends there, with the same fault
joined : (bs : List ℕ) (p q : ℕ) (w v : Want) (r s : Reason) (ks : List ℕ) → p ≤ length bs → q ≤ length bs → Wrong bs p w r → Wrong bs q v s → Fair w ks v
    → drop p bs ≡ written ks ++ drop q bs → book_told w p r ≡ book_told v q s
unfolding Fair written
joined bs p q w v r s [] lp lq h g f e =
    let place : p ≡ q = omega (arith, ap length e, length-drop p bs, length-drop q bs) in
    rw (place, f) (same_told bs q v r s (rw (place, f) at h) g)
joined bs p q w v r s (k ∷ ks) lp lq h g f e = absurd (stops bs p w r h k (written ks ++ drop q bs) f.0 f.1 f.2 (e ∙ append_assoc (number k) (written ks) (drop q bs)))

one_fault : (bs : List ℕ) (x y : BookFault) → FirstFault bs x → FirstFault bs y → x ≡ y
one_fault bs x y h g =
    h.told
    ∙ (⊎_elim
    (λ m. joined bs h.place g.place h.want g.want h.reason g.reason m.0 h.stands.within g.stands.within h.wrong g.wrong m.1 m.2)
    (λ m. sym (joined bs g.place h.place g.want h.want g.reason h.reason m.0 g.stands.within h.stands.within g.wrong h.wrong m.1 m.2))
    (meet form h.before h.want g.before g.want (drop h.place bs) (drop g.place bs) h.fair g.fair (sym h.stands.bytes ∙ g.stands.bytes))
    ∙ sym g.told)

-- where a book goes on to its end, nothing is wrong
goes_on : (bs : List ℕ) (p : ℕ) (w : Want) (r : Reason) (ks : List ℕ) → Wrong bs p w r → Fair w ks nothing → drop p bs ≡ written ks ++ [] → ⊥
unfolding Fair written
goes_on bs p w r [] h f e = omega (arith, subst (λ v. Wrong bs p v r) f h, ap length e, length-drop p bs)
goes_on bs p w r (k ∷ ks) h f e = stops bs p w r h k (written ks ++ []) f.0 f.1 f.2 (e ∙ append_assoc (number k) (written ks) [])

ended : (bs : List ℕ) (p : ℕ) (w : Want) (r : Reason) (ks : List ℕ) → Wrong bs p w r → Fair nothing ks w → [] ≡ written ks ++ drop p bs → ⊥
unfolding Fair written
ended bs p w r [] h f e = omega (arith, subst (λ v. Wrong bs p v r) (sym f) h, ap length e, length-drop p bs)
ended bs p w r (k ∷ ks) h f e = omega (arith, f.0, f.1)

no_book : (bs : List ℕ) (x : BookFault) (ms : List ℕ) → FirstFault bs x → Fair form ms nothing → bs ≡ written ms → ⊥
no_book bs x ms h f e =
    ⊎_elim (λ m. goes_on bs h.place h.want h.reason m.0 h.wrong m.1 m.2) (λ m. ended bs h.place h.want h.reason m.0 h.wrong m.1 m.2)
    (meet form h.before h.want ms nothing (drop h.place bs) [] h.fair f (sym h.stands.bytes ∙ (e ∙ sym (append-nil (written ms)))))

pub exact : (bs : List ℕ) (r : Result Tables BookFault) → Reads bs r → Exact bs r
exact bs (Ok d) (u, e) t o f = ap Ok (one_book_lem d t u o (sym e ∙ f))
exact bs (Err x) h t o f = absurd (no_book bs x (book_numbers t) h (fair_book t o) f)

pub told : (bs : List ℕ) (r : Result Tables BookFault) → Reads bs r → Told bs r
told bs (Ok d) (u, e) x h = absurd (no_book bs x (book_numbers d) h (fair_book d u) e)
told bs (Err y) g x h = ap Err (one_fault bs y x g h)
