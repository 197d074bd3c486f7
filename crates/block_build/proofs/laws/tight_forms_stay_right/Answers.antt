-- The law.
use Rattle.block_build.proofs.TightLemmas.{tight_forms_stay_right}
use Rattle.block_build.proofs.laws.tight_forms_stay_right.Goals as goal

pub returns : goal.returns
returns c = tight_forms_stay_right
