-- The order in which edits arrive makes no difference. Assumes nothing.
use Rattle.std.proofs.Common.{◌≡◌, ℕ, ◌≤◌, List, [], ◌∷◌, ◌++◌, Ok, Option, sym, ap, ◌∙◌, subst, ⊎_elim, arith}
use Rattle.std.specs.List.{AllByRecursion}
use Rattle.pegs.specs.Edits.{WellFormed, sequence}
use Rattle.pegs.specs.Tables.{fixed_slot, peg_slot}
use Rattle.pegs.specs.declared.edit.Edit.{Edit}
use Rattle.pegs.specs.declared.edit.Edit.TheVariants.{Place, Lift, Fix, Clear}
use Rattle.pegs.specs.declared.slot.Slot.{Slot}
use Rattle.profile.specs.History.{Event, read}
use Rattle.profile.specs.Law.{Among, AnyOrder, Bookless, Highest, OfFixed, OfPeg, Since, TookBook, edits, fixed_said, peg_said}
use Rattle.profile.proofs.Runs.{so_far}
use Rattle.profile.proofs.Standing.{Standing}

-- what holds of each holds of the one in the middle
at_middle : {X : Type 0} (P : X → Type 0) (before : List X) (x : X) (after : List X) → AllByRecursion P (before ++ (x ∷ after)) → P x
at_middle P [] x after all = all.0
at_middle P (b ∷ before) x after all = at_middle P before x after all.1

of_one : (P : Edit → Type 0) (e : Edit) (log : List Edit) → Among e log → AllByRecursion P log → P e
of_one P e log m all = at_middle P m.before e m.after (subst (AllByRecursion P) m.cut all)

-- without an accepted book all edits count
all_count : (h : List Event) (log : List Edit) → Bookless h → Since h log → log ≡ edits h
all_count h log free s =
    ⊎_elim (λ b. b.1) (λ b. absurd (at_middle (λ e. TookBook e → ⊥) b.before (read b.bytes (Ok tt)) b.after (subst (AllByRecursion (λ e. TookBook e → ⊥)) b.cut free) tt)) s

same_slot : {V : Type 0} (s t : Slot V) → s.last ≡ t.last → s.held ≡ t.held → s ≡ t
same_slot s t e f = λ i. record { last = e i; held = f i }

module _ {V : Type 0} (Counts : Edit → Type 0) (said : Edit → Option V) (log other : List Edit)
    (there : (e : Edit) → Counts e → Among e log → Among e other) (back : (e : Edit) → Counts e → Among e other → Among e log)
    (distinct : (x y : Edit) → Among x log → Among y log → Counts x → Counts y → sequence x ≡ sequence y → x ≡ y) where
  one_of : (e : Edit) (l : List Edit) → Highest Counts l e → Among e l
  one_of e l h = record { before = h.before; after = h.after; cut = h.cut }

  both_highest : (s t : Slot V) → Standing Counts said log s → Standing Counts said other t
      → (x : Edit) → Highest Counts log x → s.last ≡ sequence x → s.held ≡ said x
      → (y : Edit) → Highest Counts other y → t.last ≡ sequence y → t.held ≡ said y → s ≡ t
  both_highest s t g k x hx lx sx y hy ly sy =
      let low = of_one (λ e. Counts e → sequence e ≤ s.last) y log (back y hy.counts (one_of y other hy)) g.below hy.counts in
      let high = of_one (λ e. Counts e → sequence e ≤ t.last) x other (there x hx.counts (one_of x log hx)) k.below hx.counts in
      let level : sequence x ≡ sequence y = omega (arith, low, high, lx, ly) in
      let same = distinct x y (one_of x log hx) (back y hy.counts (one_of y other hy)) hx.counts hy.counts level in
      same_slot s t (lx ∙ (level ∙ sym ly)) (sx ∙ (ap said same ∙ sym sy))

  pub slots_agree : (s t : Slot V) → Standing Counts said log s → Standing Counts said other t → s ≡ t
  slots_agree s t g k =
      ⊎_elim
      (λ none. ⊎_elim
      (λ no. same_slot s t (none.1 ∙ sym no.1) (none.2 ∙ sym no.2))
      (λ y. absurd (of_one (λ e. Counts e → ⊥) y.0 log (back y.0 y.1.counts (one_of y.0 other y.1)) none.0 y.1.counts))
      k.stands)
      (λ x. ⊎_elim
      (λ no. absurd (of_one (λ e. Counts e → ⊥) x.0 other (there x.0 x.1.counts (one_of x.0 log x.1)) no.0 x.1.counts))
      (λ y. both_highest s t g k x.0 x.1 x.2 x.3 y.0 y.1 y.2 y.3)
      k.stands)
      g.stands

peg_formed : (n : ℕ) (e : Edit) → OfPeg n e → WellFormed e
peg_formed n (Place m s st l) c = c.1
peg_formed n (Lift m s) c = c.1
peg_formed n (Fix m s st l h) c = absurd c
peg_formed n (Clear m s) c = absurd c

fixed_formed : (n : ℕ) (e : Edit) → OfFixed n e → WellFormed e
fixed_formed n (Place m s st l) c = absurd c
fixed_formed n (Lift m s) c = absurd c
fixed_formed n (Fix m s st l h) c = c.1
fixed_formed n (Clear m s) c = c.1

pub any_order : AnyOrder
any_order h k p q r s free bare same distinct =
    let a = so_far r in
    let b = so_far s in
    let ea = all_count h a.log free a.since in
    let eb = all_count k b.log bare b.since in
    record {
      pegs = λ n. slots_agree (OfPeg n) peg_said (edits h) (edits k) (λ e c. (same e (peg_formed n e c)).0) (λ e c. (same e (peg_formed n e c)).1) (distinct.pegs n)
          (peg_slot p.tables n) (peg_slot q.tables n)
          (subst (λ l. Standing (OfPeg n) peg_said l (peg_slot p.tables n)) ea (a.state.pegs n))
          (subst (λ l. Standing (OfPeg n) peg_said l (peg_slot q.tables n)) eb (b.state.pegs n));
      fixed = λ n. slots_agree (OfFixed n) fixed_said (edits h) (edits k) (λ e c. (same e (fixed_formed n e c)).0) (λ e c. (same e (fixed_formed n e c)).1) (distinct.fixed n)
          (fixed_slot p.tables n) (fixed_slot q.tables n)
          (subst (λ l. Standing (OfFixed n) fixed_said l (fixed_slot p.tables n)) ea (a.state.fixed n))
          (subst (λ l. Standing (OfFixed n) fixed_said l (fixed_slot q.tables n)) eb (b.state.fixed n));
    }
