use Rattle.job_upkeep.proofs.Policies.{anew}
use Rattle.job_upkeep.proofs.plans.policies_keep_jobs.Goals as goal

pub returns : goal.returns
returns c = anew c.steps_stay_steady.ensures c.plans_are_committed.ensures.replied c.jobs_leave_lines.ensures c.units_start_anew.ensures
