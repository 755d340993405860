use Rattle.std.proofs.Common.{◌≡◌, Err, ap, ◌∙◌, rules}
use Rattle.profile.proofs.Answered.{ok_or_err, same_err}
use Rattle.profile.proofs.profile.Profile.read_book.Goals as goal

pub returns-clause-told : goal.returns-clause-told
returns-clause-told c = λ x f. absurd (ok_or_err c.in_ok-self.field-0 x (c.in_ok-self.ensures.told x f))

pub returns-in_err-self-clause-told : goal.returns-in_err-self-clause-told
returns-in_err-self-clause-told c = λ x f.
    let e : c.from_residual.result ≡ Err c.in_err-self.field-0.0 = search rules in
    e ∙ ap Err (same_err c.in_err-self.field-0.0 x (c.in_err-self.ensures.told x f))
