use Rattle.std.proofs.Common.{◌≡◌, ℕ, zero, suc, ◌+◌, ◌-◌, ◌<◌, ◌≤◌, List, true, false, leb, length, take, drop, get_or, ap, ◌∙◌, add-one, rules, arith}
use Rattle.std.specs.List.{AllWithin}
use Rattle.std.specs.List.Sorted.{IsNonDecreasingBy, IsPartitionPoint}
use Rattle.std.proofs.lemmas.Bool.{leb-false, leb-true}
use Rattle.std.proofs.lemmas.List.{get_or-drop, get_or-take, get_or_default, length-drop, length-take-le}
use Rattle.std.proofs.lemmas.List.Sorted.{IsNonDecreasingBy-drop, IsNonDecreasingBy-from_all_adjacent, IsNonDecreasingBy-take, IsPartitionPoint-from_clause, IsPartitionedBy-leb}
use borrow.Author.Tests.{tests}
use Rattle.fitting.specs.declared.alignment.Standing.{Standing}
use Rattle.fitting.specs.Line.{OnRoad, Rising, nobody, station}
use Rattle.fitting.specs.Rules.{OnStretch}
use Rattle.fitting.proofs.grade_line.GradeLine.stretch_of.Goals as goal

-- the pegs between the first and the last
abbrev inner : List Standing → List Standing
inner ps = take (length ps - 1 - 1) (drop 1 ps)

inner-length : (ps : List Standing) → length (inner ps) ≡ length ps - 1 - 1
inner-length ps = length-take-le (length ps - 1 - 1) (drop 1 ps) (omega (arith, length-drop 1 ps))

inner_at : (ps : List Standing) (k : ℕ) → k + 2 < length ps → get_or (inner ps) k nobody ≡ get_or ps (k + 1) nobody
inner_at ps k low =
    let e : 1 + k ≡ k + 1 = omega arith in
    get_or-take (length ps - 1 - 1) (drop 1 ps) k nobody (omega arith) ∙ get_or-drop 1 ps k nobody ∙ ap (λ i. get_or ps i nobody) e

rises : (ps : List Standing) → Rising ps → IsNonDecreasingBy (λ s. s.point.station) ps
rises ps rising =
    IsNonDecreasingBy-from_all_adjacent (λ s. s.point.station) ps
    (λ k d low. rw (get_or_default ps k d nobody (omega arith), get_or_default ps (k + 1) d nobody low) (omega (arith, rising k low)))

last_before : (ps : List Standing) (s i : ℕ) → OnRoad ps s → i ≤ length (inner ps)
    → IsPartitionPoint (λ y. leb y.point.station s ≡ true) (λ y. leb y.point.station s ≡ false) (inner ps) i
    → OnStretch ps i s
last_before ps s i road most found =
    (before i most found.0, λ more. leb-false _ _ (rw (inner_at ps i more) at (found.1 i nobody (omega arith) (omega (arith, inner-length ps)))))
  where
    before : (k : ℕ) → k ≤ length (inner ps) → AllWithin (λ y. leb y.point.station s ≡ true) (inner ps) 0 k → station ps k ≤ s
    before zero low all = road.0
    before (suc k) low all = let e = rw add-one at (inner_at ps k (omega (arith, inner-length ps))) in leb-true _ _ (rw e at (all k nobody (omega arith) (omega arith)))

pub returns : goal.returns
returns c =
    let ps = c.args.self.now.pegs.now in
    let s = c.args.station in
    record {
      there = omega (arith, inner-length ps, c.args.self.now.sound.least);
      on = last_before ps s c.partition_point.result c.requires c.partition_point.ensures.bound
          (IsPartitionPoint-from_clause (λ y. leb y.point.station s) (inner ps) c.partition_point.result c.partition_point.ensures.partitioned
          (IsPartitionedBy-leb (λ y. y.point.station) (inner ps) s (IsNonDecreasingBy-take (λ y. y.point.station) _ _ (IsNonDecreasingBy-drop (λ y. y.point.station) 1 ps (rises ps c.args.self.now.sound.rising))))
          (λ a r f k. search (rules, tests)));
    }
