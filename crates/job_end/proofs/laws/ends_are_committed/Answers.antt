use Rattle.job_end.proofs.EndedStates.{can_end, finished, leads_on, offers_known}
use Rattle.job_end.proofs.EndedTables.{table_at_end}
use Rattle.job_end.proofs.laws.ends_are_committed.Goals as goal

pub returns-clause-known : goal.returns-clause-known
returns-clause-known c = λ s swap end is. offers_known s swap end is.steady is.is_swap is.is

pub returns-clause-allowed : goal.returns-clause-allowed
returns-clause-allowed c = λ s swap end classes pool switch adverts is parts room. can_end s swap end is.steady is.is_swap is.is classes pool switch adverts parts room

pub returns-clause-reached : goal.returns-clause-reached
returns-clause-reached c = λ s swap end classes pool switch adverts is parts. leads_on s swap end is.steady is.is_swap is.is classes pool switch adverts parts

pub returns-clause-finished : goal.returns-clause-finished
returns-clause-finished c = λ s swap end is. (table_at_end s swap end is.steady is.is_swap is.is, finished s swap end is.steady is.is_swap is.is)

pub returns-clause-fits : goal.returns-clause-fits
returns-clause-fits c = λ s units owed swap end is none runs all.
    c.jobs_end.ensures s units owed _ _ is.steady none runs all (table_at_end s swap end is.steady is.is_swap is.is) (finished s swap end is.steady is.is_swap is.is)
