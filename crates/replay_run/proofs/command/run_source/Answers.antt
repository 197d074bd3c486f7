use Rattle.std.proofs.Common.{◌≡◌, ◌-◌, ◌++◌, ◌≤◌, sym, ap, ◌∙◌, subst, append-nil, refl, arith, take, drop, length, length-append}
use Rattle.std.specs.Prelude.{min}
use Rattle.std.specs.Io.KnownBytes.{Consumes}
use Rattle.events.specs.State.{first}
use Rattle.replay_run.specs.Progress.{IsPartOf}
use Rattle.replay_run.specs.Run.{limit}
use Rattle.replay_run.proofs.Bytes.{Appends_then, Consumes_then}
use Rattle.replay_run.proofs.Parts.{along}
use Rattle.replay_run.proofs.Takes.{length_take}
use Rattle.replay_run.proofs.Ends.{taken_few, kept_whole, whole_run, replayed_end, no_read_fault, Consumes_keeps, limited, taken_parts}
use Rattle.replay_run.proofs.Begun.{begins}
use Rattle.replay_run.proofs.command.run_source.Goals as goal

pub returns-in_default-clause-replay : goal.returns-in_default-clause-replay
returns-in_default-clause-replay g c =
    let i = c.loop-taken.invariant.run in
    let p = c.loop-taken.progress in
    let few : length i.0 ≤ limit = omega (arith, i.4) in (
      i.0,
      i.1,
      Consumes_keeps _ _ _ i.0 i.2 c.in_default.ensures.bytes,
      i.3,
      omega (arith, few),
      (
        few,
        (
          p.refused,
          whole_run i.0 i.1 p c.loop-taken.sdx c.args.steps.now c.loop-taken.steps (along first (take limit i.0) i.1 i.0 i.1 p c.loop-taken.sdx c.args.steps.now c.loop-taken.steps (kept_whole limit i.0 few) refl i.5),
        ),
      ),
    )

pub returns-then-count-eq0-clause-replay : goal.returns-then-count-eq0-clause-replay
returns-then-count-eq0-clause-replay g c =
    let i = c.loop-taken.invariant.run in
    let p = c.loop-taken.progress in
    let few : length i.0 ≤ limit = omega (arith, i.4) in
    let end = c.finish.ensures.end i.0 i.1 c.args.steps.now (along first (take limit i.0) i.1 i.0 i.1 p c.loop-taken.sdx c.args.steps.now c.loop-taken.steps (kept_whole limit i.0 few) refl i.5) in
    let buffer = c.read_at_most.new.buffer in
    let none : i.0 ++ take c.in-Ok.count buffer ≡ i.0 = ap (λ k. i.0 ++ take k buffer) c.if-count-eq0.true ∙ append-nil i.0 in (
      i.0,
      i.1 ++ end.0,
      subst (λ b. Consumes (g.S.Source.left c.args.source.now) (g.S.Source.left c.read_at_most.new.source) b) none (Consumes_then _ _ _ i.0 (take c.in-Ok.count buffer) i.2 c.in-Ok.ensures.bytes.0),
      Appends_then _ _ _ i.1 end.0 i.3 end.1,
      omega (arith, few),
      replayed_end c.all_runs_go_on.ensures c.finish.result i.0 (i.1 ++ end.0) (g.S.Source.left c.read_at_most.new.source) c.finish.new.sdx c.args.steps.now c.finish.new.steps (c.in-Ok.ensures.bytes.1 c.if-count-eq0.true (omega arith)) few end.2,
    )

pub returns-then-count-eq0-clause-read : goal.returns-then-count-eq0-clause-read
returns-then-count-eq0-clause-read g c is =
    let i = c.loop-taken.invariant.run in
    let p = c.loop-taken.progress in
    let few : length i.0 ≤ limit = omega (arith, i.4) in
    let end = c.finish.ensures.end i.0 i.1 c.args.steps.now (along first (take limit i.0) i.1 i.0 i.1 p c.loop-taken.sdx c.args.steps.now c.loop-taken.steps (kept_whole limit i.0 few) refl i.5) in
    absurd (no_read_fault c.finish.result i.0 (i.1 ++ end.0) c.finish.new.sdx c.args.steps.now c.finish.new.steps is end.2)

pub loop-taken-preserved : goal.loop-taken-preserved
loop-taken-preserved g c =
    let i = c.loop-taken.invariant.run in
    let few : length i.0 ≤ limit = omega (arith, i.4) in
    let buffer = c.read_at_most.new.buffer in
    let count = c.in-Ok.count in
    let within : c.min-within.result ≡ min count (limit - length i.0) = omega (arith, i.4, c.min-within.ensures) in
    let more = c.in-Ok-run_piece.ensures.ok first (take limit i.0) i.1 c.args.steps.now i.5 in
    record {
      run = (
        i.0 ++ take count buffer,
        i.1 ++ more.0,
        Consumes_then _ _ _ i.0 (take count buffer) i.2 c.in-Ok.ensures.bytes.0,
        Appends_then _ _ _ i.1 more.0 i.3 more.1,
        (let held : length (take count buffer) ≡ count = length_take count buffer c.in-Ok.ensures.bound in omega (arith, i.4, length-append i.0 (take count buffer))),
        along first (take limit i.0 ++ take c.min-within.result buffer) (i.1 ++ more.0) (take limit (i.0 ++ take count buffer)) (i.1 ++ more.0) c.run_piece.new.progress c.run_piece.new.sdx c.args.steps.now c.run_piece.new.steps
            (limited limit i.0 buffer count c.min-within.result few within) refl more.2,
      );
      few = omega (arith, c.in-Ok.ensures.most);
      room = omega (arith, c.in-Ok.ensures.len, c.loop-taken.invariant.room);
      number =
          (let room : c.min-within.result ≤ count = omega (arith, c.min-within.ensures) in
          let inside : c.min-within.result ≤ length buffer = omega (arith, c.in-Ok.ensures.bound) in
          let piece : length (take c.min-within.result buffer) ≡ c.min-within.result = length_take c.min-within.result buffer inside in
          omega (arith, c.in-Ok-run_piece.ensures.number, c.loop-taken.invariant.number));
      read_later = omega (arith, c.in-Ok.ensures.cause.later, c.loop-taken.invariant.read_later);
      write_later = omega (arith, c.in-Ok-run_piece.ensures.cause.later, c.loop-taken.invariant.write_later);
    }

pub returns-in-Err-Failed-clause-replay : goal.returns-in-Err-Failed-clause-replay
returns-in-Err-Failed-clause-replay g c =
    let i = c.loop-taken.invariant.run in
    let few : length i.0 ≤ limit = omega (arith, i.4) in
    let buffer = c.read_at_most.new.buffer in
    let count = c.in-Ok.count in
    let within : c.min-within.result ≤ count = omega (arith, c.min-within.ensures) in
    let more = c.in-Err-Failed.ensures.err first (take limit i.0) i.1 c.args.steps.now i.5 in (
      i.0 ++ take count buffer,
      i.1 ++ more.0,
      Consumes_then _ _ _ i.0 (take count buffer) i.2 c.in-Ok.ensures.bytes.0,
      Appends_then _ _ _ i.1 more.0 i.3 more.1,
      taken_few i.0 buffer count c.in-Ok.ensures.bound (omega (arith, i.4, c.in-Ok.ensures.most)),
      begins c.all_runs_go_on.ensures (i.0 ++ take count buffer) (i.1 ++ more.0) c.args.steps.now c.run_piece.new.steps
          (subst (λ b. IsPartOf first b (i.1 ++ more.0) c.args.steps.now c.run_piece.new.steps) (sym (taken_parts limit i.0 buffer count c.min-within.result few within)) (more.2 (drop c.min-within.result (take count buffer)))),
    )

pub returns-in-Err-Memory-clause-replay : goal.returns-in-Err-Memory-clause-replay
returns-in-Err-Memory-clause-replay g c =
    let i = c.loop-taken.invariant.run in
    let few : length i.0 ≤ limit = omega (arith, i.4) in
    let buffer = c.read_at_most.new.buffer in
    let count = c.in-Ok.count in
    let within : c.min-within.result ≤ count = omega (arith, c.min-within.ensures) in
    let more = c.in-Err-Memory.ensures.err first (take limit i.0) i.1 c.args.steps.now i.5 in (
      i.0 ++ take count buffer,
      i.1 ++ more.0,
      Consumes_then _ _ _ i.0 (take count buffer) i.2 c.in-Ok.ensures.bytes.0,
      Appends_then _ _ _ i.1 more.0 i.3 more.1,
      taken_few i.0 buffer count c.in-Ok.ensures.bound (omega (arith, i.4, c.in-Ok.ensures.most)),
      begins c.all_runs_go_on.ensures (i.0 ++ take count buffer) (i.1 ++ more.0) c.args.steps.now c.run_piece.new.steps
          (subst (λ b. IsPartOf first b (i.1 ++ more.0) c.args.steps.now c.run_piece.new.steps) (sym (taken_parts limit i.0 buffer count c.min-within.result few within)) (more.2 (drop c.min-within.result (take count buffer)))),
    )

pub returns-clause-replay : goal.returns-clause-replay
returns-clause-replay g c =
    let i = c.loop-taken.invariant.run in
    (i.0, i.1, i.2, i.3, omega (arith, i.4, c.loop-taken.invariant.few), (omega (arith, i.4), (c.loop-taken.progress.refused, whole_run (take limit i.0) i.1 c.loop-taken.progress c.loop-taken.sdx c.args.steps.now c.loop-taken.steps i.5)))
