-- A group that has no headers in common with the rule adds nothing.
use Rattle.std.proofs.Common.{sym, ap, ◌∙◌}
use Rattle.classifier.specs.Lines.{add_lines}
use Rattle.classifier.specs.Runs.{lines_in}
use Rattle.block_build.proofs.ExitLemmas.{received_apart}
use Rattle.block_build.proofs.exits.push_group.Goals as goal

pub returns-in-None-clause-lines : goal.returns-in-None-clause-lines
returns-in-None-clause-lines c =
    ap (add_lines c.args.lines.now.items)
    (sym (received_apart c.args.hop c.args.x.now c.args.group.now.hull (lines_in c.args.group.now.runs.items) c.args.group.now.held (sym c.meet.ensures.value ∙ c.in-None.is)))
