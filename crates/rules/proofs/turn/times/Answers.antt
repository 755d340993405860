use Rattle.std.proofs.Common.{pos, unsigned_abs, rules}
use Rattle.std.proofs.lemmas.Int.{unsigned_abs-mul}
use Rattle.std.proofs.lemmas.Nat.{mul-le}
use Rattle.rules.proofs.turn.times.Goals as goal

pub returns : goal.returns
returns c =
    let size = unsigned_abs-mul c.args.rise (pos c.args.run) in
    let most = mul-le (unsigned_abs c.args.rise) c.args.run 9000000 10000 c.requires.0 c.requires.1 in
    record { value = search rules; small = search rules }
