-- A rule that can't be reached is left out.
use Rattle.std.proofs.Common.{sym, ◌∙◌}
use Rattle.classifier.proofs.SeenLemmas.{hidden}
use Rattle.classifier.specs.Items.{add_all}
use Rattle.classifier.specs.Lines.{line}
use Rattle.block_build.specs.Receivers.{received_items}
use Rattle.block_build.proofs.exits.push_joined.Goals as goal

pub returns-else-not-is_hidden-clause-lines : goal.returns-else-not-is_hidden-clause-lines
returns-else-not-is_hidden-clause-lines c =
    hidden c.args.lines.now.items c.deref.result.now (line (add_all c.args.x.now.results (received_items c.args.hop c.args.y.now.results)) c.args.cube) c.deref.ensures.value (sym c.is_hidden.ensures ∙ c.if-not-is_hidden.false)
