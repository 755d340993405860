use Rattle.std.proofs.Common.{sym, subst}
use Rattle.profile.proofs.Kept.{TablesSound, new_sound, parts}
use Rattle.profile.proofs.profile.Profile.new.Goals as goal

pub invariant_of-result : goal.invariant_of-result
invariant_of-result c = parts c.new.result (subst TablesSound (sym c.new.ensures) new_sound)
