-- The law.
use Rattle.block_build.proofs.InportLemmas.{no_inports}
use Rattle.block_build.proofs.laws.no_inports.Goals as goal

pub returns : goal.returns
returns c = no_inports
