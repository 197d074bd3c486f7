use Rattle.events.proofs.Drains.{drains}
use Rattle.events.proofs.laws.drain_drains.Goals as goal

pub returns : goal.returns
returns c = drains
