-- The parts that are written spell the update.
use Rattle.bgp_update.proofs.ReadBack.{reads_back}
use Rattle.bgp_update.proofs.laws.messages_read_back.Goals as goal

pub returns : goal.returns
returns c = λ u s f short. reads_back u s f short
