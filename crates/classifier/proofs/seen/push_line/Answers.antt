use Rattle.std.proofs.Common.{sym, ◌∙◌}
use Rattle.classifier.proofs.SeenLemmas.{hidden}
use Rattle.classifier.proofs.seen.push_line.Goals as goal

pub returns-else-not-is_hidden-clause-lines : goal.returns-else-not-is_hidden-clause-lines
returns-else-not-is_hidden-clause-lines c =
    hidden c.args.lines.now.items c.deref.result.now c.args.next c.deref.ensures.value (sym c.is_hidden.ensures ∙ c.if-not-is_hidden.false)
