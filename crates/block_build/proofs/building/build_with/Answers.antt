-- Where the lines are right at every port, the rules that they become are.
use Rattle.std.proofs.Common.{◌≤◌, length, sym, subst, ◌∙◌, arith}
use Rattle.block_build.specs.Right.{IsRightFor}
use Rattle.block_build.proofs.building.build_with.Goals as goal

pub returns-clause-anywhere : goal.returns-clause-anywhere
returns-clause-anywhere g c = λ any port.
    let count = c.len-count.ensures in
    let more = c.if-count-room.false in
    let within : length c.in_ok-lines.lines.items ≤ c.args.room = omega (arith, count, more) in
    subst (IsRightFor c.args.view.now port c.args.part.now) (sym (c.in_ok-block.ensures ∙ c.in_ok-rules.ensures)) (c.in_ok-lines.ensures.anywhere within any port)
