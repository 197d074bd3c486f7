use Rattle.std.proofs.Common.{◌≤◌, ◌+◌, cond, true, false, length, subst, ap, sym, ◌∙◌, arith}
use Rattle.std.specs.Prelude.{is_some}
use Rattle.net_types.proofs.OrderLemmas.{prefixes_total}
use Rattle.net_types.specs.Keys.{prefix_cmp}
use Rattle.advert_queue.proofs.ChangedMaps.{noted_at}
use Rattle.advert_queue.proofs.RisingEntries.{fewer_without, put_length, put_room}
use Rattle.advert_queue.proofs.changes.put_news.Goals as goal

pub returns-then-is_same-clause-items : goal.returns-then-is_same-clause-items
returns-then-is_same-clause-items c =
    c.remove.ensures.items ∙ sym (noted_at c.args.prefix c.args.news.now.items _ c.args.entry _ _ c.as_ref.ensures.value c.is_same.ensures true c.if-is_same.true)

pub returns-then-is_same-clause-few : goal.returns-then-is_same-clause-few
returns-then-is_same-clause-few c =
    let fewer = fewer_without prefix_cmp prefixes_total c.args.prefix c.args.news.now.items c.requires.rising in
    let same = ap length c.remove.ensures.items in
    omega (arith, fewer, same)

pub returns-else-is_same-clause-items : goal.returns-else-is_same-clause-items
returns-else-is_same-clause-items c =
    c.put.ensures.items ∙ sym (noted_at c.args.prefix c.args.news.now.items _ c.args.entry _ _ c.as_ref.ensures.value c.is_same.ensures false c.if-is_same.false)

pub returns-else-is_same-clause-few : goal.returns-else-is_same-clause-few
returns-else-is_same-clause-few c =
    let more = ap length c.put.ensures.items ∙ put_length prefix_cmp prefixes_total c.args.prefix c.args.entry c.args.news.now.items c.requires.rising in
    omega (arith, more)

pub returns-else-is_same-clause-room : goal.returns-else-is_same-clause-room
returns-else-is_same-clause-room c =
    let more = ap length c.put.ensures.items ∙ put_length prefix_cmp prefixes_total c.args.prefix c.args.entry c.args.news.now.items c.requires.rising in
    put_room _ _ _ _ _ (subst (λ o. c.args.news.now.room ≤ c.put.new.self.room + cond (is_some o) 0 1) c.put.ensures.value c.put.ensures.room) more
