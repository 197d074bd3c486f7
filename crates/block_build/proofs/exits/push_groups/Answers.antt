-- One more group is added.
use Rattle.std.proofs.Common.{◌+◌, List, drop, sym, ap, ◌∙◌}
use Rattle.classifier.specs.Lines.{add_lines}
use Rattle.classifier.specs.declared.line.Line.{Line}
use Rattle.block_build.specs.Groups.{lines_within}
use Rattle.block_build.proofs.ExitLemmas.{row_received}
use Rattle.block_build.proofs.GroupLemmas.{group_added}
use Rattle.block_build.proofs.exits.push_groups.Goals as goal

pub loop-group-preserved : goal.loop-group-preserved
loop-group-preserved c =
    let rest : List Line = row_received c.args.hop c.args.x.now (lines_within (drop (c.loop-group.group-index + 1) c.args.groups.now)) in
    record {
      whole =
          ap (λ (lines : List Line). add_lines lines rest) c.in_ok-push_group.ensures.lines
          ∙ sym (group_added c.args.hop c.args.x.now c.args.groups.now c.loop-group.group-index c.group-item.result c.loop-group-test.true c.group-item.is c.loop-group.lines.items)
          ∙ c.loop-group.invariant.whole;
      agrees = c.in_ok-push_group.ensures.agrees;
    }
