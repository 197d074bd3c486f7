use Rattle.std.proofs.Common.{sym, ◌∙◌, ◌≤◌, length, subst, drop, arith}
use Rattle.std.proofs.lemmas.List.{at_drop_all}
use Rattle.net_types.specs.Meets.{add_meets}
use Rattle.net_types.proofs.MeetLemmas.{add_meets-longer}
use Rattle.policy_compile.proofs.CountLemmas.{all_up_to, part_up_to}
use Rattle.policy_compile.proofs.meets.push_meets.Goals as goal

pub returns-then-len-limit : goal.returns-then-len-limit
returns-then-len-limit c =
    let kept = c.loop-other.kept.keys in
    let cube = c.args.cube.now in
    part_up_to c.args.limit kept (add_meets cube c.args.kept.now.keys c.args.others.now)
    (subst (λ all. length kept ≤ length all) c.loop-other.invariant (add_meets-longer cube kept (drop c.loop-other.other-index c.args.others.now))) (omega (arith, c.if-len-limit.true, c.len.ensures.len))

pub returns : goal.returns
returns c =
    let kept = c.loop-other.kept.keys in
    let cube = c.args.cube.now in
    all_up_to c.args.limit kept (add_meets cube c.args.kept.now.keys c.args.others.now)
    (sym (at_drop_all (λ xs. add_meets cube kept xs) c.args.others.now c.loop-other.other-index (omega (arith, c.loop-other-test.false))) ∙ c.loop-other.invariant)
