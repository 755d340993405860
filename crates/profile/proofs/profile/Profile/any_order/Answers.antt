use Rattle.profile.proofs.AnyOrder.{any_order}
use Rattle.profile.proofs.profile.Profile.any_order.Goals as goal

pub returns : goal.returns
returns c = any_order
