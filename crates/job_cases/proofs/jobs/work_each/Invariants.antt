-- The job covers the desk.
use Rattle.recompile.specs.Covering.{Covers}
use Rattle.recompile.specs.Setting.{setting}
use Rattle.job_cases.proofs.jobs.work_each.Given as goal

abbrev pub invariant-loop-word : goal.invariant-loop-word
invariant-loop-word g l =
    (goal.iterator-loop-word g).can_next l.word-iterator ×
    (goal.iterator-loop-word g).is_finite l.word-iterator ×
    Covers (setting l.desk.classes l.desk.switch.table) l.job
