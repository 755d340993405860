use Rattle.std.proofs.Common.{◌≡◌, ℕ, ◌+◌, ◌-◌, ◌<◌, ◌≤◌, List, None, Some, Option, MatchOption, length, take, drop, get_or, ap, ◌∙◌, rules, arith}
use Rattle.std.specs.List.{AllWithin, HoldsAt, zip}
use Rattle.std.proofs.lemmas.Iterator.{IsFirst-from_position, YieldsList-from_slice, YieldsList-from_zip}
use Rattle.std.proofs.lemmas.List.{get_or-drop, get_or-take, length-drop, length-take-le}
use Rattle.std.proofs.lemmas.Slice.Zip.{get_or-zip, length-zip}
use borrow.Author.Tests.{tests}
use Rattle.fitting.specs.declared.alignment.Standing.{Standing}
use Rattle.fitting.specs.Line.{Rising, nobody}
use Rattle.fitting.specs.Ready.{NotRisingAt}
use Rattle.fitting.proofs.ready.first_not_rising.Goals as goal

abbrev Rises : Standing × Standing → Type 0
Rises p = p.0.point.station + 10 ≤ p.1.point.station

abbrev Short : Standing × Standing → Type 0
Short p = p.1.point.station < p.0.point.station + 10

-- each peg with the next
abbrev pairs : List Standing → List (Standing × Standing)
pairs ps = zip ps (take (length ps - 1) (drop 1 ps))

after-length : (ps : List Standing) → length (take (length ps - 1) (drop 1 ps)) ≡ length ps - 1
after-length ps = length-take-le (length ps - 1) (drop 1 ps) (omega (arith, length-drop 1 ps))

pairs-length : (ps : List Standing) → length (pairs ps) ≡ length ps - 1
pairs-length ps = omega (arith, length-zip ps (take (length ps - 1) (drop 1 ps)), after-length ps)

pair : (ps : List Standing) (i : ℕ) → i + 1 < length ps → get_or (pairs ps) i (nobody, nobody) ≡ (get_or ps i nobody, get_or ps (i + 1) nobody)
pair ps i low =
    let e : 1 + i ≡ i + 1 = omega arith in
    get_or-zip ps (take (length ps - 1) (drop 1 ps)) i (nobody, nobody) (omega arith) (omega (arith, after-length ps))
    ∙ ap (λ s. (get_or ps i nobody, s)) (get_or-take (length ps - 1) (drop 1 ps) i nobody (omega arith) ∙ get_or-drop 1 ps i nobody ∙ ap (λ k. get_or ps k nobody) e)

rising : (ps : List Standing) (o : Option ℕ)
    → MatchOption o (AllWithin Rises (pairs ps) 0 (length (pairs ps))) (λ n. (n < length (pairs ps)) × HoldsAt Short (pairs ps) n × AllWithin Rises (pairs ps) 0 n)
    → MatchOption o (Rising ps) (λ n. NotRisingAt ps n)
rising ps None all = λ i low. rw (pair ps i low) at (all i (nobody, nobody) (omega arith) (omega (arith, pairs-length ps)))
rising ps (Some n) found =
    let there : n + 1 < length ps = omega (arith, pairs-length ps, found.0) in
    record {
      there = there;
      short = rw (pair ps n there) at (found.1 (nobody, nobody));
      first = λ j low. rw (pair ps j (omega arith)) at (found.2 j (nobody, nobody) (omega arith) low);
    }

pub returns : goal.returns
returns c =
    let ps = c.args.pegs.now in
    rising ps c.position.result
    (IsFirst-from_position c.position.new.self _ c.position.result Short Rises c.position.ensures.ran (YieldsList-from_zip (YieldsList-from_slice {s = c.zip.result.a} ps (cc)) (YieldsList-from_slice {s = c.zip.result.b} (take (length ps - 1) (drop 1 ps)) c.zip.ensures.second.0)) (λ x q k. search (rules, tests)) (λ x q k. search (rules, tests)))
