-- One more rule is joined.
use Rattle.std.proofs.Common.{◌+◌, [], ◌∷◌, List, drop, sym, ap, ◌∙◌}
use Rattle.classifier.proofs.AddLemmas.{add_lines_more}
use Rattle.classifier.specs.Lines.{add_lines}
use Rattle.classifier.specs.declared.line.Line.{Line}
use Rattle.block_build.proofs.ExitLemmas.{received-first, row_received}
use Rattle.block_build.proofs.exits.push_each.Goals as goal

pub loop-y-preserved : goal.loop-y-preserved
loop-y-preserved c = record {
  whole =
      ap (λ (lines : List Line). add_lines lines (row_received c.args.hop c.args.x.now (drop (c.loop-y.y-index + 1) c.args.ys.now))) c.in_ok-last.ensures.lines
      ∙ sym (add_lines_more (row_received c.args.hop c.args.x.now) (λ y. row_received c.args.hop c.args.x.now (y ∷ [])) (received-first c.args.hop c.args.x.now) c.loop-y.lines.items c.args.ys.now c.loop-y.y-index c.y-item.result c.loop-y-test.true c.y-item.is)
      ∙ c.loop-y.invariant.whole;
  agrees = c.in_ok-last.ensures.agrees;
  past = c.in_ok-last.ensures.past;
}
