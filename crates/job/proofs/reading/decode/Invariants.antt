use Rattle.std.proofs.Common.{◌≡◌}
use Rattle.job.proofs.reading.decode.Given as goal

-- the digits come in pieces of at most 128
abbrev pub invariant-loop-digits : goal.invariant-loop-digits
invariant-loop-digits l =
    (goal.iterator-loop-digits).can_next l.digits-iterator ×
    (goal.iterator-loop-digits).is_finite l.digits-iterator ×
    (l.digits-iterator.size ≡ 128)
