use Rattle.job_upkeep.proofs.Reroutings.{tells}
use Rattle.job_upkeep.proofs.plans.plans_tell_changes.Goals as goal

pub returns : goal.returns
returns c = tells c.steps_stay_steady.ensures c.plans_are_committed.ensures.replied
