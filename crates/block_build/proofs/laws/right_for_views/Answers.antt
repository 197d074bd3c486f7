-- The law.
use Rattle.block_build.proofs.PolicyRight.{right_for_views}
use Rattle.block_build.proofs.laws.right_for_views.Goals as goal

pub returns : goal.returns
returns c = right_for_views
