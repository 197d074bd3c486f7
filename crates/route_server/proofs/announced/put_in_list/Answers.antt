use Rattle.std.proofs.Common.{refl, length, subst, ap, ◌∙◌}
use Rattle.std.proofs.lemmas.Option.{slice_get_read}
use Rattle.net_types.specs.Sets.{Member}
use Rattle.route_server.specs.Listed.{list_at}
use Rattle.route_server.proofs.ListedLaws.{set_lists, set_list, list_there}
use Rattle.route_server.proofs.announced.put_in_list.Goals as goal

pub returns-in-Some-clause-kept : goal.returns-in-Some-clause-kept
returns-in-Some-clause-kept c n p m =
    let i = c.in-Some.ensures.item in
    let there = list_there c.args.lists.now.items c.args.from.0 c.in-Some.list.now (slice_get_read c.args.lists.now.items (length c.args.lists.now.items) c.args.from.0 c.in-Some.list.now refl i.3.0 i.1) in
    set_lists c.args.lists.now.items c.args.from.0 _ n p m (λ e k. c.put_in_room.ensures.kept p (subst (Member p) (ap (list_at c.args.lists.now.items) e ∙ there) k))

pub returns-in-Some-clause-there : goal.returns-in-Some-clause-there
returns-in-Some-clause-there c is = set_list c.args.lists.now.items c.args.from.0 _ c.args.prefix c.in-Some.ensures.item.3.0 (c.put_in_room.ensures.there is)
