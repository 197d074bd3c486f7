use Rattle.std.proofs.Common.{◌≡◌, sym, ap, subst, ◌∙◌}
use Rattle.std.specs.Prelude.{Some, None, option_copied}
use Rattle.std.specs.FinMap.{get}
use Rattle.net_types.specs.Keys.{tag_cmp}
use Rattle.ordered_map.specs.Changes.{changed_or_put}
use Rattle.advert_queue.proofs.CountLemmas.{raised}
use Rattle.advert_queue.specs.Changes.{tag_in}
use Rattle.advert_queue.specs.Counts.{IsRecounted}
use Rattle.advert_queue.specs.Recounted.{recounted}
use Rattle.advert_queue.specs.declared.counts.Recount.TheVariants.{More}
use Rattle.advert_queue.specs.declared.counts.Side.TheVariants.{Told}
use Rattle.advert_queue.proofs.leaving.count_told.Goals as goal

pub returns : goal.returns
returns c =
    let cs = c.args.counts.now.items in
    let tag = c.in-Some.entry.now.tag in
    let there : get c.args.told.now.map c.args.prefix ≡ Some c.in-Some.entry.now = sym c.get.ensures ∙ ap option_copied c.in-Some.is in
    subst (λ o. IsRecounted Told cs c.change_or_put.new.self.items None (tag_in o)) (sym there)
    (raised Told tag cs _ c.requires.used c.change_or_put.ensures.rising (c.requires.small tag) _ c.one_use.ensures
    (c.change_or_put.ensures.items ∙ ap (changed_or_put tag_cmp tag (recounted (More Told)) c.one_use.result) c.reserve.ensures.items))
