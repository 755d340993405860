use Rattle.profile.proofs.Runs.{stands_as_edited}
use Rattle.profile.proofs.profile.Profile.peg.Goals as goal

pub returns-clause-history : goal.returns-clause-history
returns-clause-history c = λ h r. stands_as_edited h c.args.self.now r

pub returns-in_err-get-clause-history : goal.returns-in_err-get-clause-history
returns-in_err-get-clause-history c = λ h r. stands_as_edited h c.args.self.now r
