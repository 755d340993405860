use Rattle.std.proofs.Common.{◌≡◌, pos, ◌*ℤ◌, arith, rules, w64, SFits}
use Rattle.std.proofs.lemmas.Int.{ints, to_z-of_z}
use Rattle.rules.specs.Turns.{twist}
use Rattle.rules.proofs.turn.Turn.twist.Goals as goal

pub returns : goal.returns
unfolding twist
returns c =
    let t = c.args.self.now.bend in
    let f : SFits w64 t.rise_in = search rules in
    let g : SFits w64 t.rise_out = search rules in
    let a : c.times.result ≡ t.rise_out *ℤ pos t.run_in = simp to_z-of_z at c.times.ensures.value in
    let b : c.times-2.result ≡ t.rise_in *ℤ pos t.run_out = simp to_z-of_z at c.times-2.ensures.value in
    record { value = omega (arith, ints); small = omega (arith, ints) }
