use Rattle.profile.proofs.Kept.{edited_sound, parts, sound_of}
use Rattle.profile.proofs.profile.Profile.apply.Goals as goal

pub invariant_of-self-2 : goal.invariant_of-self-2
invariant_of-self-2 c = parts c.apply.new.self (edited_sound c.args.edit c.args.self.now.tables c.apply.new.self c.apply.result c.apply.ensures (sound_of c.args.self.now))
