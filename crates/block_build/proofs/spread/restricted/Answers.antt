-- One more of the sender's rules is added.
use Rattle.std.proofs.Common.{refl, ap, sym, ◌∙◌, ◌+◌, drop, map}
use Rattle.classifier.proofs.AddLemmas.{add_lines_more}
use Rattle.classifier.specs.Lines.{add_lines, line}
use Rattle.net_types.specs.Cells.{freed}
use Rattle.block_build.specs.Spreads.{restricted}
use Rattle.block_build.proofs.spread.restricted.Goals as goal

pub loop-x-preserved : goal.loop-x-preserved
loop-x-preserved c =
    let port = c.args.port in
    record {
      whole =
          ap (λ kept. add_lines kept (restricted port (drop (c.loop-x.x-index + 1) c.args.xs.now))) c.in_ok-push_freed.ensures.lines
          ∙ sym (add_lines_more (λ xs. restricted port xs) (λ x. map (line x.results) (freed port x.cube)) (λ _ _. refl) c.loop-x.lines.items c.args.xs.now c.loop-x.x-index c.x-item.result c.loop-x-test.true c.x-item.is)
          ∙ c.loop-x.invariant.whole;
      agrees = c.in_ok-push_freed.ensures.agrees;
    }
