-- The walk along the rows: its start, one step of it, and what it comes to. Assumes nothing.
use Rattle.std.proofs.Common.{◌≡◌, ℕ, ◌+◌, ◌-◌, ◌*◌, ◌/◌, ◌<◌, ◌≤◌, List, length, take, drop, set, sum, sym, refl, ap, ◌∙◌, subst, inl, inr, arith}
use Rattle.std.proofs.lemmas.List.{drop_all, ext_get_or, get_or_past, get_or-set_other, get_or-set_same, get_or-take, length-set, length-take-le, take-set}
use Rattle.std.proofs.lemmas.List.Sums.{sum_by_more, sum_by-take-drop}
use Rattle.std.proofs.lemmas.Bool.{cases_eq, cases_lt}
use Rattle.pegs.specs.declared.peg.FixedLevel.{FixedLevel}
use Rattle.pegs.specs.declared.slot.Slot.{Slot}
use Rattle.fitting.specs.declared.alignment.Standing.{Standing}
use Rattle.fitting.specs.Best.{Best}
use Rattle.fitting.specs.Rows.{RowsFrom, entry, none}
use Rattle.fitting.specs.Rules.{GradesPass, Meets, PegKeeps, StretchKeeps, Verdicts, len}
use Rattle.fitting.specs.Walked.{Leads, Picked, Walked}
use Rattle.fitting.proofs.Entries.{joins_keeps, no_more, same_stretch}
use Rattle.fitting.proofs.FromPeg.{meets_later, sum_drop, whole_steps}

sum-take : (ls : List ℕ) (t : ℕ) → t < length ls → sum (take (t + 1) ls) ≡ sum (take t ls) + len ls t
sum-take ls t b = sum_by_more (λ x. x) ls t 0 b

sum_parts : (ls : List ℕ) (t : ℕ) → sum (take t ls) + sum (drop t ls) ≡ sum ls
sum_parts ls t = sum_by-take-drop (λ x. x) ls t

-- lists that agree below n have the same front
same_front : (ls ms : List ℕ) (n : ℕ) → n ≤ length ls → n ≤ length ms → ((j : ℕ) → j < n → len ls j ≡ len ms j) → take n ls ≡ take n ms
same_front ls ms n a b same =
    let p = length-take-le n ls a in
    ext_get_or 0 (take n ls) (take n ms) (p ∙ sym (length-take-le n ms b)) (λ i l.
    let d : i < n = omega arith in
    get_or-take n ls i 0 d ∙ same i d ∙ sym (get_or-take n ms i 0 d))

module _ (c : Verdicts) (ps : List Standing) (fixed : List (Slot FixedLevel)) (store : List ℕ) (rows : RowsFrom c ps fixed store 0) where
  -- from a total there is an entry after that leads on
  pub leads_on : (t l : ℕ) → t + 1 < length ps → l ≡ 5 * (l / 5) → l / 5 < 401 → entry store t (l / 5) < none → (l ≤ entry store t (l / 5)) × ((j : ℕ) × (j < 401) × Leads ps fixed (entry store (t + 1)) t l (entry store t (l / 5) - l) j)
  leads_on t l b whole below f =
      let row = rows t (omega arith) (omega arith) in
      let next = rows (t + 1) (omega arith) b in
      let at = (row (l / 5) below).found f in
      let ls = at.0 in
      let m = at.1 in
      let j = len ls (t + 1) / 5 in
      let w = whole_steps c ps fixed t ls m (t + 1) (omega arith) b in
      let here : len ls t ≡ 5 * (l / 5) = at.2 in
      let p : PegKeeps c ps t (5 * (l / 5)) = subst (λ z. PegKeeps c ps t z) here (m.pegs t (omega arith) (omega arith)) in
      let s = same_stretch c ps fixed t (len ls t) (5 * (l / 5)) (len ls (t + 1)) (5 * (len ls (t + 1) / 5)) here w.0 (m.stretches t (omega arith) b) in
      let j-joins = same_stretch c ps fixed t (5 * (l / 5)) l (5 * (len ls (t + 1) / 5)) (5 * (len ls (t + 1) / 5)) (sym whole) refl s in
      let low = (next (len ls (t + 1) / 5) w.1).least ls (meets_later c ps fixed t (t + 1) ls (omega arith) m) w.0 in
      let parts = sum_drop ls t (omega (arith, m.count)) in
      let total : sum (drop t ls) ≡ entry store t (l / 5) = at.3 in
      let high = no_more c ps fixed (entry store t) (entry store (t + 1)) t (l / 5) (len ls (t + 1) / 5) b below w.1 row next p s (omega arith) in
      (omega arith, (j, w.1, ((j-joins.apart, j-joins.kept), omega arith)))

  -- a total is that of a length that its peg may have
  total_keeps : (t k : ℕ) → t < length ps → k < 401 → entry store t k < none → PegKeeps c ps t (5 * k)
  total_keeps t k b below f =
      let at = (rows t (omega arith) b k below).found f in
      subst (λ z. PegKeeps c ps t z) at.2 (at.1.pegs t (omega arith) b)

  module _ (reached : entry store 0 0 < none) where
    -- at the first peg
    pub walked_none : (ls : List ℕ) → 0 < length ps → length ls ≡ length ps → len ls 0 ≡ 0 → Walked c ps fixed store ls 0
    walked_none ls b count first = record {
      count = count;
      pegs = λ i d.
          let e : i ≡ 0 = omega arith in
          subst (λ z. PegKeeps c ps z (len ls z)) (sym e) (subst (λ z. PegKeeps c ps 0 z) (sym first) (total_keeps 0 0 b (omega arith) reached));
      stretches = λ i d. absurd (omega arith);
      rest = let e : entry store 0 (len ls 0 / 5) ≡ entry store 0 0 = ap (λ z. entry store 0 (z / 5)) first in omega arith;
      earlier = λ ms m e i d agree. let z : i ≡ 0 = omega arith in subst (λ n. len ls n ≤ len ms n) (sym z) (omega arith);
    }

    module _ (ls : List ℕ) (t : ℕ) (b : t + 1 < length ps) (w : Walked c ps fixed store ls t) where
      here_keeps : PegKeeps c ps t (len ls t)
      here_keeps = w.pegs t (omega arith)

      here_whole : (len ls t ≡ 5 * (len ls t / 5)) × (len ls t / 5 < 401)
      here_whole = (omega (arith, here_keeps.step), omega (arith, here_keeps.most))

      pub here_reached : entry store t (len ls t / 5) < none
      here_reached = omega (arith, w.rest)

      -- the entry of its length leads on
      pub here_leads : (len ls t ≤ entry store t (len ls t / 5)) × ((j : ℕ) × (j < 401) × Leads ps fixed (entry store (t + 1)) t (len ls t) (entry store t (len ls t / 5) - len ls t) j)
      here_leads = leads_on t (len ls t) b here_whole.0 here_whole.1 here_reached

      module _ (grades : GradesPass c ps) (k : ℕ) (p : Picked ps fixed (entry store (t + 1)) t (len ls t) (entry store t (len ls t / 5) - len ls t) k) where
        old : (i : ℕ) → i < t + 1 → len (set ls (t + 1) (5 * k)) i ≡ len ls i
        old i d = get_or-set_other ls (t + 1) i (5 * k) 0 (omega arith)

        new : len (set ls (t + 1) (5 * k)) (t + 1) ≡ 5 * k
        new = get_or-set_same ls (t + 1) (5 * k) 0 (omega (arith, w.count))

        -- each index below t + 1, and t + 1
        by_index : (P : ℕ → Type 0) → ((i : ℕ) → i < t + 1 → P i) → P (t + 1) → (i : ℕ) → i < t + 1 + 1 → P i
        by_index P below at i d = elim (cases_eq i (t + 1)) [ inl e ↦ subst P (sym e) at | inr ne ↦ below i (omega arith) ]

        pegs_more : (i : ℕ) → i < t + 1 + 1 → PegKeeps c ps i (len (set ls (t + 1) (5 * k)) i)
        pegs_more = by_index (λ i. PegKeeps c ps i (len (set ls (t + 1) (5 * k)) i))
            (λ i d. subst (λ z. PegKeeps c ps i z) (sym (old i d)) (w.pegs i d))
            (subst (λ z. PegKeeps c ps (t + 1) z) (sym new) (total_keeps (t + 1) k b p.below (omega (arith, p.leads.1, here_reached))))

        stretches_more : (i : ℕ) → i < t + 1 → StretchKeeps c ps fixed i (len (set ls (t + 1) (5 * k)) i) (len (set ls (t + 1) (5 * k)) (i + 1))
        stretches_more i d =
            elim (cases_eq i t) [
              | inl e ↦ subst (λ n. StretchKeeps c ps fixed n (len (set ls (t + 1) (5 * k)) n) (len (set ls (t + 1) (5 * k)) (n + 1))) (sym e)
                  (same_stretch c ps fixed t _ _ _ _ (sym (old t (omega arith))) (sym new) (joins_keeps c ps fixed t (len ls t) (5 * k) (grades t b) p.leads.0))
              | inr ne ↦ same_stretch c ps fixed i _ _ _ _ (sym (old i d)) (sym (old (i + 1) (omega arith))) (w.stretches i (omega arith))
            ]

        new_step : len (set ls (t + 1) (5 * k)) (t + 1) / 5 ≡ k
        new_step = omega (arith, new)

        rest_more : sum (take (t + 1) (set ls (t + 1) (5 * k))) + entry store (t + 1) (len (set ls (t + 1) (5 * k)) (t + 1) / 5) ≡ entry store 0 0
        rest_more =
            let front = ap sum (take-set ls (t + 1) (5 * k)) in
            let last : entry store (t + 1) (len (set ls (t + 1) (5 * k)) (t + 1) / 5) ≡ entry store (t + 1) k = ap (entry store (t + 1)) new_step in
            omega (arith, sum-take ls t (omega (arith, w.count)), w.rest, p.leads.1, here_leads.0)

        -- others of the least total that agree up to t lead on too, and so are no shorter at t + 1
        no_shorter : (ms : List ℕ) → Meets c ps fixed ms → sum ms ≡ entry store 0 0 → ((j : ℕ) → j < t + 1 → len ls j ≡ len ms j) → 5 * k ≤ len ms (t + 1)
        no_shorter ms m e agree =
            let j = len ms (t + 1) / 5 in
            let u = whole_steps c ps fixed 0 ms m (t + 1) (omega arith) b in
            let same : len ms t ≡ len ls t = sym (agree t (omega arith)) in
            let s = same_stretch c ps fixed t (len ms t) (len ls t) (len ms (t + 1)) (5 * (len ms (t + 1) / 5)) same u.0 (m.stretches t (omega arith) b) in
            let s5 = same_stretch c ps fixed t (len ls t) (5 * (len ls t / 5)) (5 * (len ms (t + 1) / 5)) (5 * (len ms (t + 1) / 5)) here_whole.0 refl s in
            let after = meets_later c ps fixed 0 (t + 1) ms (omega arith) m in
            let up : entry store (t + 1) (len ms (t + 1) / 5) ≤ sum (drop (t + 1) ms) = (rows (t + 1) (omega arith) b (len ms (t + 1) / 5) u.1).least ms after u.0 in
            let front : sum (take (t + 1) ls) ≡ sum (take (t + 1) ms) = ap sum (same_front ls ms (t + 1) (omega (arith, w.count)) (omega (arith, m.count)) agree) in
            let parts = sum_parts ms (t + 1) in
            let more = sum-take ls t (omega (arith, w.count)) in
            let rest : sum (take t ls) + entry store t (len ls t / 5) ≡ entry store 0 0 = w.rest in
            let below : entry store (t + 1) (len ms (t + 1) / 5) ≤ entry store t (len ls t / 5) - len ls t = omega arith in
            let down : entry store t (len ls t / 5) ≤ 5 * (len ls t / 5) + entry store (t + 1) (len ms (t + 1) / 5) =
            no_more c ps fixed (entry store t) (entry store (t + 1)) t (len ls t / 5) (len ms (t + 1) / 5) b here_whole.1 u.1 (rows t (omega arith) (omega arith)) (rows (t + 1) (omega arith) b)
            (subst (λ z. PegKeeps c ps t z) here_whole.0 here_keeps) s5 (omega (arith, here_reached)) in
            let goal : entry store (t + 1) (len ms (t + 1) / 5) ≡ entry store t (len ls t / 5) - len ls t = omega (arith, here_whole.0, here_leads.0) in
            elim (cases_lt (len ms (t + 1) / 5) k) [
              | inl l ↦ absurd (p.first (len ms (t + 1) / 5) l ((s.apart, s.kept), goal))
              | inr l ↦ omega (arith, u.0)
            ]

        -- one peg further
        pub walked_more : Walked c ps fixed store (set ls (t + 1) (5 * k)) (t + 1)
        walked_more = record {
          count = length-set ls (t + 1) (5 * k) ∙ w.count;
          pegs = pegs_more;
          stretches = stretches_more;
          rest = rest_more;
          earlier = λ ms m e. by_index (λ i. ((j : ℕ) → j < i → len (set ls (t + 1) (5 * k)) j ≡ len ms j) → len (set ls (t + 1) (5 * k)) i ≤ len ms i)
              (λ i d agree. subst (λ z. z ≤ len ms i) (sym (old i d)) (w.earlier ms m e i d (λ j h. sym (old j (omega arith)) ∙ agree j h)))
              (λ agree. subst (λ z. z ≤ len ms (t + 1)) (sym new) (no_shorter ms m e (λ j h. sym (old j h) ∙ agree j h)));
        }

    module _ (ls : List ℕ) (t : ℕ) (last : t + 1 ≡ length ps) (w : Walked c ps fixed store ls t) where
      walked_meets : Meets c ps fixed ls
      walked_meets = record {
        count = w.count;
        pegs = λ i a d. w.pegs i (omega arith);
        stretches = λ i a d. w.stretches i (omega arith);
      }

      -- at the last peg nothing is left
      pub walked_total : entry store 0 0 ≡ sum ls
      walked_total =
          let flat : len ls t ≡ 0 = (w.pegs t (omega arith)).last last in
          let step-flat : len ls t / 5 ≡ 0 = omega arith in
          let at : entry store t (len ls t / 5) ≡ entry store t 0 = ap (entry store t) step-flat in
          let low : entry store t 0 ≤ sum (drop t ls) = (rows t (omega arith) (omega arith) 0 (omega arith)).least ls (meets_later c ps fixed 0 t ls (omega arith) walked_meets) flat in
          let nothing : sum (drop (t + 1) ls) ≡ 0 = ap sum (drop_all (t + 1) ls (omega (arith, w.count))) in
          omega (arith, sum_drop ls t (omega (arith, w.count)), sum_parts ls t, w.rest)

      -- the lengths of a whole walk are the best
      pub walked_best : Best c ps fixed ls
      walked_best = record {
        meets = walked_meets;
        least = λ ms m. omega (arith, walked_total, (rows 0 (omega arith) (omega arith) 0 (omega arith)).least ms m ((m.pegs 0 (omega arith) (omega arith)).first refl));
        earliest = λ ms m e i agree. elim (cases_lt i (length ps)) [
          | inl l ↦ w.earlier ms m (e ∙ sym walked_total) i (omega arith) agree
          | inr l ↦ omega (arith, get_or_past ls i 0 (omega (arith, w.count)))
        ];
      }
