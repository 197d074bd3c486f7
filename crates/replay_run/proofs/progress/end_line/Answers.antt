use Rattle.std.proofs.Common.{◌+◌, ◌||◌, ap}
use Rattle.replay_run.proofs.SentLines.{runs_line, stops_line}
use Rattle.replay_run.proofs.progress.end_line.Goals as goal

pub returns-in-Ok-clause-ok : goal.returns-in-Ok-clause-ok
returns-in-Ok-clause-ok g c =
    let r = c.in-Ok.ensures.ok in
    let p = c.args.progress.now in
    let said = c.in-Ok.refused in
    let after = c.run_ended.new.progress in
    runs_line _ _ c.args.text.now.items r.0 c.run_ended.new.text.items p (record { line = c.clear.new.self; number = after.number + 1; refused = after.refused || said }) c.args.sdx.now c.run_ended.new.sdx c.args.steps.now c.run_ended.new.steps c.args.part.now said
    c.requires.open c.in-Ok.ensures.steps r.2 r.1 c.clear.ensures (ap (λ n. n + 1) c.in-Ok.ensures.number) (ap (λ b. b || said) c.in-Ok.ensures.refused)

pub returns-in-Err-clause-err : goal.returns-in-Err-clause-err
returns-in-Err-clause-err g c =
    let r = c.in-Err.ensures.err in
    stops_line _ _ c.args.text.now.items r.0 c.run_ended.new.text.items r.1 c.args.progress.now c.args.sdx.now c.run_ended.new.sdx c.args.steps.now c.run_ended.new.steps c.args.part.now c.requires.open c.in-Err.ensures.steps r.3 r.2
