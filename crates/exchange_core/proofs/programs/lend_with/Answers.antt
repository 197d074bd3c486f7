use Rattle.std.proofs.Common.{◌+◌, [], ◌∷◌, ◌++◌, drop, ap, ◌∙◌}
use Rattle.block_build.specs.Lent.{Lent}
use Rattle.classifier.specs.Classifiers.{lines_of}
use Rattle.exchange_core.specs.Programs.{all_lent}
use Rattle.exchange_core.proofs.Compiled.{lent_around}
use Rattle.exchange_core.proofs.programs.lend_with.Goals as goal

pub returns : goal.returns
returns c =
    let all = c.args.programs.now in
    let k = c.args.who.0 in
    let x : Lent = record { outbound = lines_of c.args.outbound.now; inbound = lines_of c.args.inbound.now } in
    c.in_ok-lend_all-2.ensures ∙ (λ i. c.in_ok-push.ensures.ok i ++ all_lent (c.split_at-2.ensures.back i))
    ∙ ap (λ v. (v ++ x ∷ []) ++ all_lent (drop (k + 1) all)) (c.in_ok-lend_all.ensures ∙ (λ i. c.new-views.ensures i ++ all_lent (c.split_at.ensures.front i)))
    ∙ lent_around all k x c.requires
