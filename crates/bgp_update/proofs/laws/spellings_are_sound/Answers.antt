-- Each check leaves values of that form.
use Rattle.bgp_update.proofs.SoundReading.{spells_sound}
use Rattle.bgp_update.proofs.laws.spellings_are_sound.Goals as goal

pub returns : goal.returns
returns c = λ b u h s. spells_sound b u h s
