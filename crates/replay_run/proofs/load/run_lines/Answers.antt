use Rattle.std.proofs.Common.{◌≡◌, ◌<◌, arith, subst}
use Rattle.replay_run.specs.Load.{Loaded, Loads}
use Rattle.replay_run.proofs.Loads.{nothing_loaded, told_err}
use Rattle.replay_run.proofs.load.run_lines.Goals as goal

pub loop-number-init : goal.loop-number-init
loop-number-init g c = rw (c.requires.first, c.new-tally.ensures) (nothing_loaded c.args.seed c.args.steps.now)

pub loop-number-preserved : goal.loop-number-preserved
loop-number-preserved g c = c.in_ok-run_generated.ensures.ok c.args.steps.now c.loop-number.invariant

pub returns-in_err-run_generated-clause-err : goal.returns-in_err-run_generated-clause-err
returns-in_err-run_generated-clause-err g c =
    let within : c.loop-number.number < c.args.lines = omega arith in
    told_err c.from_residual.result (Loads c.args.seed c.args.lines c.args.steps.now c.run_generated.new.steps) (c.in_err-run_generated.ensures.err c.args.steps.now c.args.lines within c.loop-number.invariant)

pub returns-clause-ok : goal.returns-clause-ok
returns-clause-ok g c =
    let all : c.loop-number.number ≡ c.args.lines = omega arith in
    subst (λ n. Loaded c.args.seed n c.loop-number.tally c.loop-number.sdx c.args.steps.now c.loop-number.steps) all c.loop-number.invariant
