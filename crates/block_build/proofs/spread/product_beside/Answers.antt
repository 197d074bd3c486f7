-- A product that may have stopped.
use Rattle.std.proofs.Common.{subst}
use Rattle.block_build.proofs.BoundLemmas.{added_beside}
use Rattle.block_build.specs.Bounds.{IsAdded}
use Rattle.block_build.proofs.spread.product_beside.Goals as goal

pub returns : goal.returns
returns c =
    added_beside c.args.limit c.args.xs.now c.args.receiver.now.lines c.push_product.new.lines.items
    (subst (λ old. IsAdded c.args.limit old c.args.xs.now c.args.receiver.now.lines c.push_product.new.lines.items) c.new-more.ensures.items c.in_ok-push_product.ensures.added)
