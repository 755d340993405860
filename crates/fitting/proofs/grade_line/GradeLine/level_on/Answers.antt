use Rattle.std.proofs.Common.{◌≡◌, ℕ, ◌+◌, ◌-◌, length, sym, subst, arith}
use Rattle.fitting.specs.Rules.{len}
use Rattle.fitting.specs.Stretches.{Lengths, Room, Sound}
use Rattle.fitting.proofs.OnLine.{stretch_lengths, stretch_room, stretch_sound}
use Rattle.fitting.proofs.grade_line.GradeLine.level_on.Goals as goal

one_less : (i n : ℕ) → i + 2 ≡ n → n - 1 ≡ i + 1
one_less i n e = omega arith

pub invariant_of-nearest_level : goal.invariant_of-nearest_level
invariant_of-nearest_level c =
    let ps = c.args.self.now.pegs.now in
    let ls = c.args.lengths.now in
    let i = c.stretch_of-i.result in
    let so = c.args.self.now.sound in
    let low = c.stretch_of-i.ensures.there in
    let apart = c.requires.apart i low in
    let e = sym c.stretch_at.ensures in
    record {
      sound = subst Sound e (stretch_sound ps i so.rising so.figures low);
      lengths = subst (λ t. Lengths t (len ls i) (len ls (i + 1))) e
          (stretch_lengths ps i (len ls i) (len ls (i + 1)) so.rising low apart.0 apart.1 apart.2 (λ z. subst (λ k. len ls k ≡ 0) (sym z) c.requires.first) (λ z. subst (λ k. len ls k ≡ 0) (one_less i (length ps) z) c.requires.last));
    }

pub nearest_level-requires-clause-room : goal.nearest_level-requires-clause-room
nearest_level-requires-clause-room c =
    let ps = c.args.self.now.pegs.now in
    let ls = c.args.lengths.now in
    let i = c.stretch_of-i.result in
    subst (λ t. Room t (len ls i) (len ls (i + 1))) (sym c.stretch_at.ensures)
    (stretch_room ps ls i c.args.self.now.sound.rising c.stretch_of-i.ensures.there c.requires.first c.requires.last (λ j l. (c.requires.apart j l).2))
