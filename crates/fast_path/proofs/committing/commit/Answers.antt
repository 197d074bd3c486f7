use Rattle.std.proofs.Common.{sym, ap, subst, ◌∙◌, arith}
use Rattle.fast_path.proofs.CommittedMembers.{members_are_few, tags_given}
use Rattle.fast_path.specs.Committing.{AreUnused, given_all, member_count, signed}
use Rattle.fast_path.specs.Grouping.{known_by}
use Rattle.fast_path.proofs.committing.commit.Goals as goal

pub give_members-requires-clause-prefixes : goal.give_members-requires-clause-prefixes
give_members-requires-clause-prefixes g c =
    let few = members_are_few (known_by c.args.plan.named c.args.classes.now).kept c.args.plan.tags (signed c.args.plan.fresh.items) c.requires.unkept in
    let same = ap member_count c.requires.members in
    let room = c.requires.prefixes_room in
    omega (arith, few, same, room)

pub forget_all-requires : goal.forget_all-requires
forget_all-requires g c =
    let then = tags_given c.args.classes.now.tag c.give_members.new.classes.tag c.untag_all.new.classes.tag c.args.plan.tags _ c.args.plan.fresh.items c.requires.rising c.requires.fresh c.requires.members (c.give_members.ensures.tag ∙ ap (λ m. given_all m c.args.plan.fresh.items) c.trim_named.ensures.tag) c.items.ensures c.untag_all.ensures.tag in
    subst (AreUnused c.untag_all.new.classes.tag) (sym c.deref-3.ensures.value) (subst (λ m. AreUnused m c.args.plan.dead.items) (sym then) c.requires.unused)

pub returns-clause-tag : goal.returns-clause-tag
returns-clause-tag g c =
    c.forget_all.ensures.tag
    ∙ tags_given c.args.classes.now.tag c.give_members.new.classes.tag c.untag_all.new.classes.tag c.args.plan.tags _ c.args.plan.fresh.items c.requires.rising c.requires.fresh c.requires.members (c.give_members.ensures.tag ∙ ap (λ m. given_all m c.args.plan.fresh.items) c.trim_named.ensures.tag) c.items.ensures c.untag_all.ensures.tag
