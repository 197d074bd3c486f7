use Rattle.job_upkeep.proofs.Added.{added_few}
use Rattle.job_upkeep.proofs.plans.added_are_few.Goals as goal

pub returns : goal.returns
returns c = added_few
