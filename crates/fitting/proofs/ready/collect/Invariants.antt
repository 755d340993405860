use Rattle.std.proofs.Common.{◌≡◌, ◌≤◌, ◌++◌, length, take, drop}
use Rattle.fitting.specs.Ready.{standing_from}
use Rattle.fitting.proofs.ready.collect.Given as goal

abbrev pub invariant-loop-n : goal.invariant-loop-n
invariant-loop-n l = (l.count ≤ l.n) × (length l.pegs ≡ 40) × (take l.count l.pegs ++ standing_from l.n (drop l.n l.slots) ≡ standing_from 0 l.slots)
