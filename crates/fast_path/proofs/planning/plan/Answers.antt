-- The plan of the draft, or why there is none.
use Rattle.std.proofs.Common.{[], ap, ◌∙◌, arith}
use Rattle.fast_path.specs.Grouping.{more_groups, moved_groups}
use Rattle.fast_path.proofs.PlanFound.{free_is, need_is}
use Rattle.fast_path.proofs.PlanMade.{IsReady, ready_fault, ready_order, ready_parts, ready_plan, ready_steps}
use Rattle.fast_path.proofs.planning.plan.Goals as goal

pub returns-in-Some-clause-plan : goal.returns-in-Some-clause-plan
returns-in-Some-clause-plan g c = λ s r is_rebuilt asked.
    let short = c.in-Some.ensures.short in
    let are = c.in_ok-groups.ensures ∙ ap (λ k. more_groups [] (moved_groups k c.args.proposal.now.touched c.args.proposal.now.sigs)) c.of-known.ensures in (
      short.0 ∙ need_is s r is_rebuilt _ _ _ _ _ _ _ _ asked c.in_ok-groups.groups are,
      short.1 ∙ free_is s r is_rebuilt _ _ _ _ _ _ _ _ asked,
      short.2,
    )

pub rules_for-requires-clause-parts : goal.rules_for-requires-clause-parts
rules_for-requires-clause-parts g c =
    let p = c.args.proposal.now in
    let fs = c.in_ok-groups.groups in
    let ready : IsReady c.args.names.now c.args.classes.now c.args.pool.now c.args.adverts.now.told p c.args.rebuild.now fs c.in_ok-draft.draft = record {
      are = c.in_ok-groups.ensures ∙ ap (λ k. more_groups [] (moved_groups k p.touched p.sigs)) c.of-known.ensures;
      room = c.in_default.ensures.enough;
      is = c.in_ok-draft.ensures;
    } in
    ready_parts c.args.names.now c.args.classes.now c.args.pool.now c.args.adverts.now.told (g.B.Blocks.installed c.args.switch.now) c.args.views.now p c.args.rebuild.now fs c.in_ok-draft.draft ready c.of-known.result c.deref.result.now c.items-drops.result.now c.items-built.result.now
    c.of-known.ensures c.deref.ensures.value c.items-drops.ensures c.items-built.ensures c.requires

-- a table is no larger than a line may say
pub rules_for-requires-clause-small : goal.rules_for-requires-clause-small
rules_for-requires-clause-small g c =
    let most = c.requires.3.base.sized.room in
    let holds = c.requires.3.capacity in
    omega (arith, most, holds)

pub rules_for-requires-clause-rising : goal.rules_for-requires-clause-rising
rules_for-requires-clause-rising g c =
    let p = c.args.proposal.now in
    let fs = c.in_ok-groups.groups in
    let ready : IsReady c.args.names.now c.args.classes.now c.args.pool.now c.args.adverts.now.told p c.args.rebuild.now fs c.in_ok-draft.draft = record {
      are = c.in_ok-groups.ensures ∙ ap (λ k. more_groups [] (moved_groups k p.touched p.sigs)) c.of-known.ensures;
      room = c.in_default.ensures.enough;
      is = c.in_ok-draft.ensures;
    } in
    ready_order c.args.names.now c.args.classes.now c.args.pool.now c.args.adverts.now.told (g.B.Blocks.installed c.args.switch.now) c.args.views.now p c.args.rebuild.now fs c.in_ok-draft.draft ready c.of-known.result c.deref.result.now c.items-drops.result.now c.items-built.result.now
    c.of-known.ensures c.deref.ensures.value c.items-drops.ensures c.items-built.ensures c.requires

pub returns-in-Err-clause-plan : goal.returns-in-Err-clause-plan
returns-in-Err-clause-plan g c = λ s r is_rebuilt asked.
    let p = c.args.proposal.now in
    let fs = c.in_ok-groups.groups in
    let ready : IsReady c.args.names.now c.args.classes.now c.args.pool.now c.args.adverts.now.told p c.args.rebuild.now fs c.in_ok-draft.draft = record {
      are = c.in_ok-groups.ensures ∙ ap (λ k. more_groups [] (moved_groups k p.touched p.sigs)) c.of-known.ensures;
      room = c.in_default.ensures.enough;
      is = c.in_ok-draft.ensures;
    } in
    ready_fault c.args.names.now c.args.classes.now c.args.pool.now c.args.adverts.now.told (g.B.Blocks.installed c.args.switch.now) c.args.views.now p c.args.rebuild.now fs c.in_ok-draft.draft ready c.of-known.result c.deref.result.now c.items-drops.result.now c.items-built.result.now
    c.of-known.ensures c.deref.ensures.value c.items-drops.ensures c.items-built.ensures s r is_rebuilt asked c.right_rules_are_few.ensures c.in-Err.fault c.in-Err.ensures.full

pub returns-in-Err-clause-steps : goal.returns-in-Err-clause-steps
returns-in-Err-clause-steps g c = λ s r is_rebuilt asked.
    let p = c.args.proposal.now in
    let fs = c.in_ok-groups.groups in
    let ready : IsReady c.args.names.now c.args.classes.now c.args.pool.now c.args.adverts.now.told p c.args.rebuild.now fs c.in_ok-draft.draft = record {
      are = c.in_ok-groups.ensures ∙ ap (λ k. more_groups [] (moved_groups k p.touched p.sigs)) c.of-known.ensures;
      room = c.in_default.ensures.enough;
      is = c.in_ok-draft.ensures;
    } in
    ready_steps c.args.names.now c.args.classes.now c.args.pool.now c.args.adverts.now.told (g.B.Blocks.installed c.args.switch.now) c.args.views.now p c.args.rebuild.now fs c.in_ok-draft.draft ready c.of-known.result c.deref.result.now c.items-drops.result.now c.items-built.result.now
    c.of-known.ensures c.deref.ensures.value c.items-drops.ensures c.items-built.ensures s r is_rebuilt asked c.args.steps.now c.rules_for.new.steps c.rules_for.ensures.steps

pub returns-in_err-plan-clause-steps : goal.returns-in_err-plan-clause-steps
returns-in_err-plan-clause-steps g c = λ s r is_rebuilt asked.
    let p = c.args.proposal.now in
    let fs = c.in_ok-groups.groups in
    let ready : IsReady c.args.names.now c.args.classes.now c.args.pool.now c.args.adverts.now.told p c.args.rebuild.now fs c.in_ok-draft.draft = record {
      are = c.in_ok-groups.ensures ∙ ap (λ k. more_groups [] (moved_groups k p.touched p.sigs)) c.of-known.ensures;
      room = c.in_default.ensures.enough;
      is = c.in_ok-draft.ensures;
    } in
    ready_steps c.args.names.now c.args.classes.now c.args.pool.now c.args.adverts.now.told (g.B.Blocks.installed c.args.switch.now) c.args.views.now p c.args.rebuild.now fs c.in_ok-draft.draft ready c.of-known.result c.deref.result.now c.items-drops.result.now c.items-built.result.now
    c.of-known.ensures c.deref.ensures.value c.items-drops.ensures c.items-built.ensures s r is_rebuilt asked c.args.steps.now c.rules_for.new.steps c.rules_for.ensures.steps

pub returns-clause-plan : goal.returns-clause-plan
returns-clause-plan g c = λ s r is_rebuilt asked.
    let p = c.args.proposal.now in
    let fs = c.in_ok-groups.groups in
    let ready : IsReady c.args.names.now c.args.classes.now c.args.pool.now c.args.adverts.now.told p c.args.rebuild.now fs c.in_ok-draft.draft = record {
      are = c.in_ok-groups.ensures ∙ ap (λ k. more_groups [] (moved_groups k p.touched p.sigs)) c.of-known.ensures;
      room = c.in_default.ensures.enough;
      is = c.in_ok-draft.ensures;
    } in
    ready_plan c.args.names.now c.args.classes.now c.args.pool.now c.args.adverts.now.told (g.B.Blocks.installed c.args.switch.now) c.args.views.now p c.args.rebuild.now fs c.in_ok-draft.draft ready c.of-known.result c.deref.result.now c.items-drops.result.now c.items-built.result.now
    c.of-known.ensures c.deref.ensures.value c.items-drops.ensures c.items-built.ensures s r is_rebuilt asked c.in-Ok.blocks.items c.in-Ok.ensures.built c.in_ok-plan.plan c.in_ok-plan.ensures

pub returns-clause-steps : goal.returns-clause-steps
returns-clause-steps g c = λ s r is_rebuilt asked.
    let p = c.args.proposal.now in
    let fs = c.in_ok-groups.groups in
    let ready : IsReady c.args.names.now c.args.classes.now c.args.pool.now c.args.adverts.now.told p c.args.rebuild.now fs c.in_ok-draft.draft = record {
      are = c.in_ok-groups.ensures ∙ ap (λ k. more_groups [] (moved_groups k p.touched p.sigs)) c.of-known.ensures;
      room = c.in_default.ensures.enough;
      is = c.in_ok-draft.ensures;
    } in
    ready_steps c.args.names.now c.args.classes.now c.args.pool.now c.args.adverts.now.told (g.B.Blocks.installed c.args.switch.now) c.args.views.now p c.args.rebuild.now fs c.in_ok-draft.draft ready c.of-known.result c.deref.result.now c.items-drops.result.now c.items-built.result.now
    c.of-known.ensures c.deref.ensures.value c.items-drops.ensures c.items-built.ensures s r is_rebuilt asked c.args.steps.now c.rules_for.new.steps c.rules_for.ensures.steps
