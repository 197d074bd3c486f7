-- What one more rule makes is added.
use Rattle.std.proofs.Common.{◌+◌, arith, ap, ◌∙◌}
use Rattle.classifier.specs.Lines.{add_lines, row}
use Rattle.classifier.specs.declared.join.Join.TheVariants.{Union}
use Rattle.block_build.proofs.BoundLemmas.{added_more}
use Rattle.block_build.proofs.spread.push_each.Goals as goal

pub returns-then-len-limit-clause-added : goal.returns-then-len-limit-clause-added
returns-then-len-limit-clause-added c = record {
  taken = c.loop-x.x-index + 1;
  is =
      c.in_ok-push_row.ensures.lines
      ∙ ap (λ kept. add_lines kept (row Union c.x-item.result c.args.receiver.now.lines)) c.loop-x.invariant.front
      ∙ added_more c.args.lines.now.items c.args.xs.now c.args.receiver.now.lines c.loop-x.x-index c.x-item.result c.loop-x-test.true c.x-item.is;
  whole_within = λ within. absurd (omega (arith, c.len.ensures, c.push_row.new.lines.ok, c.if-len-limit.true, within));
}

pub loop-x-preserved : goal.loop-x-preserved
loop-x-preserved c = record {
  front =
      c.in_ok-push_row.ensures.lines
      ∙ ap (λ kept. add_lines kept (row Union c.x-item.result c.args.receiver.now.lines)) c.loop-x.invariant.front
      ∙ added_more c.args.lines.now.items c.args.xs.now c.args.receiver.now.lines c.loop-x.x-index c.x-item.result c.loop-x-test.true c.x-item.is;
  agrees = c.in_ok-push_row.ensures.agrees;
}
