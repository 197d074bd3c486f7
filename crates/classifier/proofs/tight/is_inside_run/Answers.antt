use Rattle.std.proofs.Common.{sym, ◌∙◌}
use Rattle.classifier.proofs.RunLemmas.{outside_hull}
use Rattle.classifier.proofs.tight.is_inside_run.Goals as goal

pub returns-else-within : goal.returns-else-within
returns-else-within c =
    let run = c.args.run.now in
    c.if-within.false ∙ sym (outside_hull run.hull run.lines.now c.args.next.now run.held (sym c.within.ensures.value ∙ c.if-within.false))
