-- The law.
use Rattle.block_build.proofs.LentLemmas.{views_are_of}
use Rattle.block_build.proofs.laws.views_are_of.Goals as goal

pub returns : goal.returns
returns c = views_are_of
