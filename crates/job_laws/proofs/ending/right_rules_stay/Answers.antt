use Rattle.job_laws.proofs.MergedStates.{right_rules_stay}
use Rattle.job_laws.proofs.ending.right_rules_stay.Goals as goal

pub returns : goal.returns
returns c = right_rules_stay
