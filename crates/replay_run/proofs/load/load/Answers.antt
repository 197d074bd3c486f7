use Rattle.std.proofs.Common.{◌+◌, ◌∙◌, nat_lt, refl}
use Rattle.replay_run.proofs.Loads.{load_done, load_failed, loads_all, nothing_written}
use Rattle.replay_run.proofs.load.load.Goals as goal

pub returns-in_default-clause-load : goal.returns-in_default-clause-load
returns-in_default-clause-load g c =
    nothing_written c.args.seed c.args.count (g.K.Sink.held c.args.sink.now) c.run_lines.new.sdx (17 + c.args.count) c.args.steps.now c.run_lines.new.steps refl c.in_default.ensures.err

pub returns-in_default-summary-clause-load : goal.returns-in_default-summary-clause-load
returns-in_default-summary-clause-load g c =
    nothing_written c.args.seed c.args.count (g.K.Sink.held c.args.sink.now) c.run_lines.new.sdx (17 + c.args.count) c.args.steps.now c.run_lines.new.steps refl
    (loads_all c.args.seed (17 + c.args.count) c.in-Ok.tally c.run_lines.new.sdx c.args.steps.now c.run_lines.new.steps c.in-Ok.ensures.ok)

pub returns-in-Ok-write_all-clause-load : goal.returns-in-Ok-write_all-clause-load
returns-in-Ok-write_all-clause-load g c =
    load_done c.done_or_refused.result (nat_lt 0 c.in-Ok.tally.refused) c.args.seed c.args.count (17 + c.args.count) (g.K.Sink.held c.args.sink.now) (g.K.Sink.held c.write_all.new.sink) c.run_lines.new.sdx c.args.steps.now c.run_lines.new.steps
    c.as_bytes.result.now c.in-Ok.tally c.live_tags.result c.rules-rules.result c.done_or_refused.ensures refl c.in-Ok-write_all.ensures.ok c.in-Ok.ensures.ok c.live_tags.ensures (rw c.switch.ensures at c.rules-rules.ensures)
    (c.as_bytes.ensures.value ∙ c.in-Ok-summary.ensures) refl

pub returns-clause-load : goal.returns-clause-load
returns-clause-load g c =
    let w = c.in-Err.ensures.err in
    load_failed c.fault_status.result c.in-Err.fault c.args.seed c.args.count (17 + c.args.count) (g.K.Sink.held c.args.sink.now) (g.K.Sink.held c.write_all.new.sink) c.run_lines.new.sdx c.args.steps.now c.run_lines.new.steps
    c.as_bytes.result.now w.0 w.1 c.in-Ok.tally c.live_tags.result c.rules-rules.result c.fault_status.ensures refl w.2 w.3 c.in-Ok.ensures.ok c.live_tags.ensures (rw c.switch.ensures at c.rules-rules.ensures)
    (c.as_bytes.ensures.value ∙ c.in-Ok-summary.ensures)
