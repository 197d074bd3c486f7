use Rattle.std.proofs.Common.{◌<◌, ◌≤◌, ◌+◌, subst, sym, arith}
use Rattle.fast_path.proofs.Loops.{each_done, each_next, greater_one}
use Rattle.fast_path.specs.declared.planned.Class.{Class}
use Rattle.fast_path.proofs.committing.above_all.Goals as goal

pub loop-class-preserved : goal.loop-class-preserved
loop-class-preserved c =
    let most : (c.loop-class.most ≤ c.max-most.result) × (c.class-item.result.tag.0 + 1 ≤ c.max-most.result) =
    subst (λ n. (c.loop-class.most ≤ n) × (c.class-item.result.tag.0 + 1 ≤ n)) (sym c.max-most.ensures) (greater_one c.loop-class.most (c.class-item.result.tag.0 + 1)) in
    each_next (λ (x : Class). x.tag.0 < c.max-most.result) c.args.fresh.now c.loop-class.class-index c.class-item.result c.loop-class-test.true c.class-item.is
    (λ x m. let before = c.loop-class.invariant x m in omega (arith, before, most.0)) (omega (arith, most.1))

pub returns : goal.returns
returns c = each_done (λ (x : Class). x.tag.0 < c.loop-class.most) c.args.fresh.now c.loop-class.class-index c.loop-class-test.false c.loop-class.invariant
