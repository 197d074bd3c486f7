use Rattle.job_upkeep.proofs.Reroutings.{keep}
use Rattle.job_upkeep.proofs.plans.reroutings_keep_jobs.Goals as goal

pub returns : goal.returns
returns c = keep c.steps_stay_steady.ensures c.plans_are_committed.ensures.replied c.jobs_leave_lines.ensures
