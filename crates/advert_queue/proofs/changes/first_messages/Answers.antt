use Rattle.std.proofs.Common.{◌≤◌, map, sym, ap, subst, ◌∙◌}
use Rattle.std.specs.Map.Iter.{deref_pair}
use Rattle.std.specs.Prelude.{IfSome}
use Rattle.events.specs.declared.Entry.{Entry}
use Rattle.advert_queue.proofs.Fronts.{lent_member}
use Rattle.advert_queue.specs.Changes.{Change}
use Rattle.advert_queue.proofs.changes.first_messages.Goals as goal

pub advert-requires-clause-small : goal.advert-requires-clause-small
advert-requires-clause-small c =
    let items = c.as_slice-prefix-items.result.now in
    let item = c.loop-prefix-item.result in
    let x : Change = (item.0.now, item.1.now) in
    subst (λ o. IfSome o (λ (e : Entry). e.tag.0 ≤ 65536)) (sym c.as_ref.ensures.value)
    (c.requires.small x (lent_member deref_pair items c.args.count c.args.news.now.items c.loop-prefix.prefix-index item (ap (map deref_pair) c.as_slice-prefix-items.ensures.value ∙ c.in_ok-firsts.ensures) c.loop-prefix-test.true c.loop-prefix-item.is))
