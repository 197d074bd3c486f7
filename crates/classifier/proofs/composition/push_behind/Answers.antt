use Rattle.std.proofs.Common.{sym, ◌∙◌}
use Rattle.classifier.specs.declared.join.Join.TheVariants.{Union}
use Rattle.classifier.specs.Lines.{line, joined, after_all}
use Rattle.classifier.proofs.SeenLemmas.{hidden}
use Rattle.classifier.proofs.composition.push_behind.Goals as goal

pub returns-else-not-is_hidden-clause-lines : goal.returns-else-not-is_hidden-clause-lines
returns-else-not-is_hidden-clause-lines c =
    hidden c.args.lines.now.items c.deref.result.now (line (joined Union c.args.x.now.results (after_all c.args.first c.args.next.now)) c.args.cube) c.deref.ensures.value (sym c.is_hidden.ensures ∙ c.if-not-is_hidden.false)
