-- A rule that can't be reached is left out.
use Rattle.std.proofs.Common.{sym, ap, ◌∙◌}
use Rattle.classifier.proofs.SeenLemmas.{hidden}
use Rattle.classifier.specs.Items.{add_all}
use Rattle.classifier.specs.Lines.{add_line, add_lines, line}
use Rattle.block_build.proofs.AloneLemmas.{row_alone}
use Rattle.block_build.proofs.exits.push_alone.Goals as goal

pub returns-else-not-is_hidden-clause-lines : goal.returns-else-not-is_hidden-clause-lines
returns-else-not-is_hidden-clause-lines c =
    hidden c.args.lines.now.items c.deref.result.now (line (add_all c.args.x.now.results c.args.results.now) c.args.x.now.cube) c.deref.ensures.value (sym c.is_hidden.ensures ∙ c.if-not-is_hidden.false)
    ∙ ap (add_lines c.args.lines.now.items) (sym (row_alone c.args.results.now c.args.x.now))

pub returns-in_ok-push_reached-clause-lines : goal.returns-in_ok-push_reached-clause-lines
returns-in_ok-push_reached-clause-lines c =
    c.in_ok-push_reached.ensures.lines
    ∙ ap (λ items. add_line c.args.lines.now.items (line items c.args.x.now.cube)) c.in_ok-results.ensures
    ∙ ap (add_lines c.args.lines.now.items) (sym (row_alone c.args.results.now c.args.x.now))
