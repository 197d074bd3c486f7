use Rattle.std.proofs.Common.{◌≡◌, ℕ, ◌+◌, ◌≤◌, false, List, [], ◌++◌, take, ap, subst, ◌∙◌, length, sym, IfOk, OnErr, inl, refl}
use Rattle.std.proofs.lemmas.Bool.{eqb-true}
use Rattle.events.specs.Lines.{event_of}
use Rattle.replay_run.specs.Bounds.{line_bound}
use Rattle.replay_run.specs.Progress.{IsBegun, kept_octets, RunsEvent}
use Rattle.replay_run.specs.Sending.{IsSent}
use Rattle.replay_run.proofs.Ends.{no_items}
use Rattle.replay_run.proofs.Parts.{kept_event}
use Rattle.replay_run.proofs.Sendings.{none_sent}
use Rattle.replay_run.proofs.progress.run_ended.Goals as goal

-- what is kept of a line tells its event
same_event : (octets kept line : List ℕ) → octets ≡ kept → kept ≡ take kept_octets line → event_of octets ≡ event_of line
same_event octets kept line e f = ap event_of (e ∙ f) ∙ kept_event line

pub returns-clause-ok : goal.returns-clause-ok
returns-clause-ok g c =
    let p = c.args.progress.now in
    let same : event_of c.octets-line.result.now ≡ event_of (p.line ++ c.args.part.now) = same_event _ _ (p.line ++ c.args.part.now) c.octets-line.ensures c.in-Ok.ensures in
    subst (λ e. IfOk c.run_line-2.result (λ refused. (w : List ℕ) × RunsEvent e c.args.sdx.now p.number false w c.run_line-2.new.sdx refused
    × IsSent (g.K.Sink.held c.args.sink.now) (g.K.Sink.held c.run_line-2.new.sink) c.args.text.now.items w c.run_line-2.new.text.items [])) same c.run_line-2.ensures.ok

pub returns-clause-err : goal.returns-clause-err
returns-clause-err g c =
    let p = c.args.progress.now in
    let same : event_of c.octets-line.result.now ≡ event_of (p.line ++ c.args.part.now) = same_event _ _ (p.line ++ c.args.part.now) c.octets-line.ensures c.in-Ok.ensures in
    subst (λ e. OnErr c.run_line-2.result ((w rest : List ℕ) × IsBegun e c.args.sdx.now p.number w c.run_line-2.new.sdx
    × IsSent (g.K.Sink.held c.args.sink.now) (g.K.Sink.held c.run_line-2.new.sink) c.args.text.now.items w c.run_line-2.new.text.items rest)) same c.run_line-2.ensures.err

pub returns-clause-steps : goal.returns-clause-steps
returns-clause-steps g c =
    let line = c.args.progress.now.line ++ c.args.part.now in
    subst (λ e. c.run_line-2.new.steps ≤ c.args.steps.now + line_bound c.args.sdx.now e) (same_event _ _ line c.octets-line.ensures c.in-Ok.ensures) c.run_line-2.ensures.steps

-- memory ran out before the line was whole
pub returns-in_default-clause-err : goal.returns-in_default-clause-err
returns-in_default-clause-err g c = ([], [], inl refl, none_sent (g.K.Sink.held c.args.sink.now) c.args.text.now.items [])

-- nothing of the line was kept
pub returns-then-is_empty-clause-err : goal.returns-then-is_empty-clause-err
returns-then-is_empty-clause-err g c =
    let p = c.args.progress.now in
    let part = c.args.part.now in
    let empty : p.line ≡ [] = sym c.octets.ensures ∙ no_items c.octets.result.now (eqb-true (length c.octets.result.now) 0 (sym c.is_empty.ensures ∙ c.if-is_empty.true)) in
    subst (λ l. OnErr c.run_line.result ((w rest : List ℕ) × IsBegun (event_of (l ++ part)) c.args.sdx.now p.number w c.run_line.new.sdx
    × IsSent (g.K.Sink.held c.args.sink.now) (g.K.Sink.held c.run_line.new.sink) c.args.text.now.items w c.run_line.new.text.items rest)) (sym empty) c.run_line.ensures.err
