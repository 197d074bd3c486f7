use Rattle.std.proofs.Common.{ap, sym, subst}
use Rattle.std.specs.FinMap.{entries}
use Rattle.prefix_map.specs.Entries.{seen_entries}
use Rattle.prefix_classes.proofs.MoveLemmas.{ArePlanned, next_has, planned_moves, planned_stays, tags_agree, tags_differ}
use Rattle.prefix_classes.proofs.moves.moves_by.Goals as goal

pub least_beside-least-requires-clause-placed : goal.least_beside-least-requires-clause-placed
least_beside-least-requires-clause-placed c =
    c.requires c.in-Some.prefix c.in-Some.field-0-1.now
    (next_has c.args.grouping.now c.args.tags.now.map (seen_entries c.loop-prefix.prefix-iterator.rest.items) (seen_entries c.next.new.self.rest.items) c.loop-prefix.moves.items c.in-Some.prefix c.in-Some.field-0-1.now c.loop-prefix.invariant (ap seen_entries c.in-Some.ensures.steps.0))

pub loop-prefix-preserved-in-Continue-branch-3 : goal.loop-prefix-preserved-in-Continue-branch-3
loop-prefix-preserved-in-Continue-branch-3 c =
    subst (ArePlanned c.args.grouping.now (entries c.args.tags.now.map) (seen_entries c.next.new.self.rest.items)) (sym c.in_ok-push.ensures.items)
    (planned_moves c.args.grouping.now c.args.tags.now.map (seen_entries c.loop-prefix.prefix-iterator.rest.items) (seen_entries c.next.new.self.rest.items) c.loop-prefix.moves.items c.in-Some.prefix c.in-Some.field-0-1.now c.loop-prefix.invariant (ap seen_entries c.in-Some.ensures.steps.0) c.least_beside-least.result c.least_beside-least.ensures
    (tags_differ c.least_beside-least.result c.in-Some.field-0-1.now c.ne.result c.ne.ensures c.if-ne.true))

pub loop-prefix-preserved : goal.loop-prefix-preserved
loop-prefix-preserved c =
    planned_stays c.args.grouping.now c.args.tags.now.map (seen_entries c.loop-prefix.prefix-iterator.rest.items) (seen_entries c.next.new.self.rest.items) c.loop-prefix.moves.items c.in-Some.prefix c.in-Some.field-0-1.now c.loop-prefix.invariant (ap seen_entries c.in-Some.ensures.steps.0) c.least_beside-least.result c.least_beside-least.ensures
    (tags_agree c.least_beside-least.result c.in-Some.field-0-1.now c.ne.result c.ne.ensures c.if-ne.false)
