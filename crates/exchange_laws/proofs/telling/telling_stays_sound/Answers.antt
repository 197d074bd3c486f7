use Rattle.exchange_laws.proofs.ToldAnew.{telling_stays_sound}
use Rattle.exchange_laws.proofs.telling.telling_stays_sound.Goals as goal

pub returns : goal.returns
returns c = telling_stays_sound
