use Rattle.events.proofs.Reached.{runs_sound}
use Rattle.events.proofs.laws.runs_stay_sound.Goals as goal

pub returns : goal.returns
returns c = runs_sound
