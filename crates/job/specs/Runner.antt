-- What a line of a job does. Assumes nothing.
use Rattle.std.specs.Prelude.{◌≡◌, Some, None, Option, MatchResult}
use Rattle.desk.specs.Desk.{Made}
use Rattle.desk.specs.declared.call.Call.{Call}
use Rattle.desk.specs.declared.desk.Desk.{Desk}
use Rattle.job.specs.declared.reply.Reply.{Reply}

-- a line moves the desk by a call, which is answered; a line that is no call leaves it
abbrev pub Moved : Desk → Desk → Option Reply → Type 0
Moved d d' None = d' ≡ d
Moved d d' (Some r) = MatchResult r.0 (λ a. (c : Call) × Made d c d' a) (λ _. d' ≡ d)
