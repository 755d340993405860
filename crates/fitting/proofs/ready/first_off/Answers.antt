use Rattle.std.proofs.Common.{◌≡◌, ℕ, ◌<◌, ◌≤◌, List, Some, Option, None, MatchOption, length, rules, arith}
use Rattle.std.specs.List.{AllWithin, HoldsAt}
use Rattle.std.proofs.lemmas.Iterator.{IsFirst-from_position, YieldsList-from_slice}
use borrow.Author.Tests.{tests}
use Rattle.pegs.specs.Slots.{untouched}
use Rattle.pegs.specs.declared.peg.FixedLevel.{FixedLevel}
use Rattle.pegs.specs.declared.slot.Slot.{Slot}
use Rattle.fitting.specs.declared.alignment.Standing.{Standing}
use Rattle.fitting.specs.Line.{OnRoad}
use Rattle.fitting.specs.Ready.{FixedOn, OffRoadAt}
use Rattle.fitting.proofs.Slots.{every_slot}
use Rattle.fitting.proofs.ready.first_off.Goals as goal

-- what a slot holds lies on the road
abbrev On : List Standing → Slot FixedLevel → Type 0
On ps s = (f : FixedLevel) → s.held ≡ Some f → OnRoad ps f.station

off_road : (ps : List Standing) (fixed : List (Slot FixedLevel)) (o : Option ℕ) → length fixed ≡ 16
    → MatchOption o (AllWithin (On ps) fixed 0 (length fixed)) (λ n. (n < length fixed) × HoldsAt (λ s. On ps s → ⊥) fixed n × AllWithin (On ps) fixed 0 n)
    → MatchOption o (FixedOn ps fixed) (λ n. (n ≤ 15) × OffRoadAt ps fixed n)
off_road ps fixed None e all = every_slot fixed (λ f. OnRoad ps f.station) (λ m low. all m untouched (omega arith) low)
off_road ps fixed (Some n) e found = (omega arith, record { off = found.1 untouched; first = λ m low. found.2 m untouched (omega arith) low })

pub returns : goal.returns
returns c =
    let ps = c.args.pegs.now in
    off_road ps c.args.fixed.now c.position.result c.requires.sixteen
    (IsFirst-from_position _ _ c.position.result (λ s. On ps s → ⊥) (On ps) c.position.ensures.ran (YieldsList-from_slice c.args.fixed.now (cc)) (λ x q k. search (rules, tests)) (λ x q k. search (rules, tests)))
