use Rattle.std.proofs.Common.{◌≡◌, ◌+◌, ◌<◌, length, take, List, [], ◌∷◌, ◌++◌, sym, ap, subst, ◌∙◌}
use Rattle.std.proofs.lemmas.List.{take_more}
use Rattle.classifier.specs.Lines.{tightened}
use Rattle.classifier.specs.Runs.{lines_in}
use Rattle.classifier.specs.declared.run.Run.{Run}
use Rattle.classifier.proofs.RunLemmas.{lines_in-push}
use Rattle.classifier.proofs.tight.tight_lines.Goals as goal

pub loop-place-preserved : goal.loop-place-preserved
loop-place-preserved c =
    let runs : List Run = c.in_ok-runs.runs.items in
    let place = c.loop-place.place in
    let run : Run = c.index.result.now in
    let within : place < length runs = subst (λ n. place < n) (c.len-place-end.ensures ∙ sym c.deref.ensures.len ∙ ap length c.deref.ensures.value) c.loop-place-test.true in
    let more : take (place + 1) runs ≡ take place runs ++ run ∷ [] = take_more runs place run within ∙ ap (λ r. take place runs ++ r ∷ []) (sym c.index.ensures) in
    c.in_ok-push_run.ensures ∙ ap (λ rs. tightened [] (lines_in (take place rs) ++ run.lines.now)) c.deref.ensures.value
    ∙ ap (tightened []) (sym (ap lines_in more ∙ lines_in-push (take place runs) run))
