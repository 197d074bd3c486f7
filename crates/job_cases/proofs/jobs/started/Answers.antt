-- The job covers the desk.
use Rattle.job_cases.proofs.BegunLemmas.{begun_covers}
use Rattle.job_cases.proofs.jobs.started.Goals as goal

pub returns-clause-covers : goal.returns-clause-covers
returns-clause-covers c =
    let desk = c.args.desk.now in
    let ps = c.in_ok-pairs in
    begun_covers desk.classes desk.switch.table ps.pairs c.in_ok-start.field-0 ps.ensures.pairs ps.ensures.carried c.in_ok-start.ensures.covers
