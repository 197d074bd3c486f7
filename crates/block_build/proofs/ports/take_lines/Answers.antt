-- The next rule's ports are taken, and in the end none is left.
use Rattle.std.proofs.Common.{◌<◌, get_or, length, arith, subst}
use Rattle.classifier.specs.declared.line.Line.{Line}
use Rattle.block_build.proofs.TakenLemmas.{all-done, one-done}
use Rattle.block_build.specs.Ports.{AreTaken}
use Rattle.block_build.proofs.ports.take_lines.Goals as goal

pub loop-line-preserved : goal.loop-line-preserved
loop-line-preserved c =
    let before = λ (z : Line). AreTaken c.loop-line.ports z.results in
    let after = λ (z : Line). AreTaken c.take_items.new.ports z.results in
    let lines = c.args.lines.now in
    let at = c.loop-line.line-index in
    let within : at < length lines = omega arith in
    let kept = c.in_ok-take_items.ensures.kept in
    let z = c.line-item.result in
    let this : after (get_or lines at z) = subst after c.line-item.is (subst (AreTaken c.take_items.new.ports) c.items.ensures c.in_ok-take_items.ensures.taken) in
    record {
      taken = one-done before after lines at z within (λ x p i stands. kept i.1 (p i stands)) this c.loop-line.invariant.taken;
      kept = λ loc taken. kept loc (c.loop-line.invariant.kept loc taken);
    }

pub returns-clause-taken : goal.returns-clause-taken
returns-clause-taken c =
    all-done (λ (z : Line). AreTaken c.loop-line.ports z.results) c.args.lines.now c.loop-line.line-index (omega arith) c.loop-line.invariant.taken
