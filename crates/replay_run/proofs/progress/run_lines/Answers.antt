use Rattle.std.proofs.Common.{◌++◌, ◌∷◌, [], sym, ap, ◌∙◌, append-nil, append_assoc, refl, arith, length, length-append, subst}
use Rattle.replay_run.specs.Progress.{RunsOn}
use Rattle.replay_run.specs.declared.progress.Progress.{Progress}
use Rattle.replay_run.proofs.SentLines.{runs_none, runs_part, runs_then, stops_here, stops_then}
use Rattle.replay_run.proofs.progress.run_lines.Goals as goal

pub loop-line-init : goal.loop-line-init
loop-line-init g c = record {
  run = ([], refl, runs_none (g.K.Sink.held c.args.sink.now) c.args.text.now.items c.args.progress.now c.args.sdx.now c.args.steps.now);
  number = omega arith;
  later = omega arith;
}

pub loop-line-preserved : goal.loop-line-preserved
loop-line-preserved g c =
    let i = c.loop-line.invariant.run in
    let cut = c.in-Some.ensures in
    let line = c.in-Some.line.now in
    let behind = c.in-Some.behind.now in
    let whole = line ++ 10 ∷ [] in
    record {
      run = (
        i.0 ++ whole,
        i.1 ∙ ap (λ xs. i.0 ++ xs) (cut.1 ∙ sym (append_assoc line (10 ∷ []) behind)) ∙ sym (append_assoc i.0 whole behind),
        runs_then _ _ _ c.args.text.now.items c.loop-line.text.items c.end_line.new.text.items c.args.progress.now c.loop-line.progress c.args.sdx.now c.loop-line.sdx c.args.steps.now c.loop-line.steps i.0 i.2 c.end_line.new.progress c.end_line.new.sdx c.end_line.new.steps
            whole c.in-Ok.ensures.ok,
      );
      number = omega (arith, c.in-Ok.ensures.number, c.loop-line.invariant.number, ap length cut.1, length-append line (10 ∷ behind));
      later = omega (arith, c.in-Ok.ensures.cause.later, c.loop-line.invariant.later);
    }

pub returns-in-Err-clause-err : goal.returns-in-Err-clause-err
returns-in-Err-clause-err g c =
    let i = c.loop-line.invariant.run in
    let cut = c.in-Some.ensures in
    let line = c.in-Some.line.now in
    let behind = c.in-Some.behind.now in
    stops_then _ _ _ c.args.text.now.items c.loop-line.text.items c.end_line.new.text.items c.args.progress.now c.loop-line.progress c.args.sdx.now c.loop-line.sdx c.args.steps.now c.loop-line.steps i.0 i.2 c.end_line.new.steps (line ++ 10 ∷ []) c.args.piece.now behind
    (i.1 ∙ ap (λ xs. i.0 ++ xs) (cut.1 ∙ sym (append_assoc line (10 ∷ []) behind))) c.in-Err.ensures.err

pub returns-in-Ok-push-clause-ok : goal.returns-in-Ok-push-clause-ok
returns-in-Ok-push-clause-ok g c =
    let i = c.loop-line.invariant.run in
    let p = c.loop-line.progress in
    let rest = c.loop-line.rest.now in
    let last : Progress = record { line = c.push.new.self; number = p.number; refused = p.refused } in
    subst (λ xs. RunsOn (g.K.Sink.held c.args.sink.now) (g.K.Sink.held c.loop-line.sink) c.args.text.now.items c.loop-line.text.items c.args.progress.now last c.args.sdx.now c.loop-line.sdx c.args.steps.now c.loop-line.steps xs) (sym i.1)
    (runs_then _ _ _ c.args.text.now.items c.loop-line.text.items c.loop-line.text.items c.args.progress.now p c.args.sdx.now c.loop-line.sdx c.args.steps.now c.loop-line.steps i.0 i.2 last c.loop-line.sdx c.loop-line.steps rest
    (runs_part (g.K.Sink.held c.loop-line.sink) c.loop-line.text.items p last c.loop-line.sdx c.loop-line.steps rest c.in_default.ensures c.in-Ok-push.ensures refl refl))

pub returns-in-Err-push-clause-err : goal.returns-in-Err-push-clause-err
returns-in-Err-push-clause-err g c =
    let i = c.loop-line.invariant.run in
    let rest = c.loop-line.rest.now in
    stops_then _ _ _ c.args.text.now.items c.loop-line.text.items c.loop-line.text.items c.args.progress.now c.loop-line.progress c.args.sdx.now c.loop-line.sdx c.args.steps.now c.loop-line.steps i.0 i.2 c.loop-line.steps rest c.args.piece.now []
    (i.1 ∙ ap (λ xs. i.0 ++ xs) (sym (append-nil rest))) (stops_here (g.K.Sink.held c.loop-line.sink) c.loop-line.text.items c.loop-line.progress c.loop-line.sdx c.loop-line.steps rest)
