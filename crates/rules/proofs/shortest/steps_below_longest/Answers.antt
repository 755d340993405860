use Rattle.std.proofs.Common.{◌≡◌, ℕ, ◌*◌, ◌/◌, ◌<◌, ◌≤◌, Option, Some, None, MatchOption, arith, rules}
use borrow.Author.Tests.{tests}
use Rattle.std.proofs.lemmas.Iterator.{first_from_Range}
use Rattle.rules.specs.Shortest.{NoneBelow, ShortestPassing}
use Rattle.rules.proofs.shortest.steps_below_longest.Goals as goal

-- what holds of the first steps of five metres, holds of the lengths that they make
in_steps : (verdict : ℕ → ℕ) (n : ℕ) → ((k : ℕ) → 0 ≤ k → k < n → verdict (5 * k) ≡ 0 → ⊥) → NoneBelow verdict (5 * n)
in_steps verdict n none = λ m e l p.
    let back : 5 * (m / 5) ≡ m = omega arith in
    none (m / 5) (omega arith) (omega arith) (rw back p)

first : (verdict : ℕ → ℕ) (r : Option ℕ)
    → MatchOption r ((k : ℕ) → 0 ≤ k → k < 400 → verdict (5 * k) ≡ 0 → ⊥)
    (λ i. (0 ≤ i) × (i < 400) × (verdict (5 * i) ≡ 0) × ((k : ℕ) → 0 ≤ k → k < i → verdict (5 * k) ≡ 0 → ⊥))
    → MatchOption r (NoneBelow verdict 2000) (λ i. (i < 400) × ShortestPassing verdict (5 * i))
first verdict None h = in_steps verdict 400 h
first verdict (Some i) h = (h.1, record { passes = h.2; shorter = in_steps verdict i h.3 })

pub returns : goal.returns
returns g c =
    let verdict = g.C.RoadCode.curve_verdict c.args.code.now c.args.turn.bend in
    first verdict c.find.result
    (first_from_Range _ _ _ c.find.result (λ k. verdict (5 * k) ≡ 0) (λ k. verdict (5 * k) ≡ 0 → ⊥) c.find.ensures.ran
    (λ x q k. search (rules, tests)) (λ x q k. search (rules, tests)))
