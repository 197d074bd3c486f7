use Rattle.std.proofs.Common.{◌∙◌}
use Rattle.replay_run.specs.Load.{Loads}
use Rattle.replay_run.proofs.Loads.{counted_result, loads_here, stopped_result, told_err}
use Rattle.replay_run.proofs.load.run_generated.Goals as goal

pub returns-in_err-line-clause-err : goal.returns-in_err-line-clause-err
returns-in_err-line-clause-err g c before lines within h =
    told_err c.from_residual.result (Loads c.args.seed lines before c.args.steps.now) (loads_here c.all_runs_go_on.ensures c.args.seed c.args.number lines c.args.tally.now c.args.sdx.now before c.args.steps.now within h)

pub returns-clause-ok : goal.returns-clause-ok
returns-clause-ok g c before h =
    counted_result c.count_line.result c.args.seed c.args.number c.as_slice.result.now c.args.tally.now c.count_line.new.tally c.args.sdx.now c.count_line.new.sdx before c.args.steps.now c.count_line.new.steps
    (c.as_slice.ensures.value ∙ c.in_ok-line.ensures) c.count_line.ensures.counted c.count_line.ensures.steps h

pub returns-clause-err : goal.returns-clause-err
returns-clause-err g c before lines within h =
    stopped_result c.all_runs_go_on.ensures c.count_line.result c.args.seed c.args.number lines c.as_slice.result.now c.args.tally.now c.args.sdx.now before c.args.steps.now c.count_line.new.steps
    within (c.as_slice.ensures.value ∙ c.in_ok-line.ensures) c.count_line.ensures.steps h
