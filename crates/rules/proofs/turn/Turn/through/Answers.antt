use Rattle.std.proofs.Common.{◌≤◌, arith, rules}
use Rattle.rules.proofs.turn.Turn.through.Goals as goal

pub run_to-requires-2 : goal.run_to-requires-2
run_to-requires-2 c = omega (arith, c.in_ok-sound.ensures.2 1 c.args.at (omega arith))

pub invariant_of-result-clause-run_out_least : goal.invariant_of-result-clause-run_out_least
invariant_of-result-clause-run_out_least c = omega (arith, c.in_ok-sound.ensures.2 1 c.args.at (omega arith))

pub invariant_of-result-clause-rise_in_within : goal.invariant_of-result-clause-rise_in_within
invariant_of-result-clause-rise_in_within c =
    let low = c.in_ok-sound.ensures.1 in
    let first : c.args.before.level ≤ 9000000 = low 0 c.args.at (omega arith) in
    let second : c.args.at.level ≤ 9000000 = low 1 c.args.at (omega arith) in
    search rules

pub invariant_of-result-clause-rise_out_within : goal.invariant_of-result-clause-rise_out_within
invariant_of-result-clause-rise_out_within c =
    let low = c.in_ok-sound.ensures.1 in
    let second : c.args.at.level ≤ 9000000 = low 1 c.args.at (omega arith) in
    let third : c.args.after.level ≤ 9000000 = low 2 c.args.at (omega arith) in
    search rules
