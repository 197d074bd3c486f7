use Rattle.std.proofs.Common.{◌++◌, arith}
use Rattle.net_types.specs.Meets.{meets}
use Rattle.policy_compile.proofs.CountLemmas.{part_up_to, fewer_dropped}
use Rattle.policy_compile.proofs.meets.push_cubes.Goals as goal

pub returns-then-len-limit : goal.returns-then-len-limit
returns-then-len-limit c = λ others e.
    let kept = c.loop-left.kept.keys in
    let cubes = c.args.cubes.now in
    let u = c.loop-left.invariant.kept others e in
    part_up_to c.args.limit kept (meets (cubes ++ others)) (omega (arith, u.no_longer, fewer_dropped c.loop-left.left cubes others)) (omega (arith, c.if-len-limit.true, c.len.ensures.len))
