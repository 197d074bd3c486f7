use Rattle.std.proofs.Common.{◌≡◌, true, ap, sym, ◌∙◌, length, arith}
use Rattle.std.proofs.lemmas.List.{take_all}
use Rattle.replay_run.specs.Progress.{is_open}
use Rattle.replay_run.proofs.Cuts.{open_before, cut_there}
use Rattle.replay_run.proofs.progress.cut_line.Goals as goal

pub returns-in_err-place : goal.returns-in_err-place
returns-in_err-place c =
    let text = c.args.text.now in
    let none : is_open text ≡ true = ap is_open (sym (take_all (length text) text (omega arith))) ∙ open_before text (length text) (λ j below. c.in_err-place.ensures j (omega arith) below) in
    rw c.from_residual.ensures none

pub returns : goal.returns
returns c =
    let text = c.args.text.now in
    let k = c.in_ok-place.place in
    let found = c.in_ok-place.ensures in
    (open_before text k (λ j below. found.0.before j (omega arith) below), cut_there text k found.0.high found.1)
