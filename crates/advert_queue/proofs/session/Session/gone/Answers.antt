use Rattle.std.proofs.Common.{◌≡◌, List, length, map, filter, take, sym, ap, subst, ◌∙◌}
use Rattle.std.specs.Prelude.{IfOk}
use Rattle.net_types.specs.declared.address.Tag.{Tag}
use Rattle.advert_queue.proofs.GoneLemmas.{gone_are}
use Rattle.advert_queue.proofs.TakenLemmas.{told_are}
use Rattle.advert_queue.specs.Changes.{changed, limited}
use Rattle.advert_queue.specs.Counts.{entry_tag}
use Rattle.advert_queue.specs.Kept.{Queued}
use Rattle.advert_queue.specs.Leaving.{is_gone}
use Rattle.advert_queue.specs.Taken.{gone_tags, told_then}
use Rattle.advert_queue.proofs.session.Session.gone.Goals as goal

pub returns : goal.returns
returns c =
    let a = c.self.inside in
    let told = a.told.map in
    let cs = a.news.items in
    let kept = c.self.invariant.tellable in
    let count : c.limited-count.result ≡ limited c.args.limit (length cs) = c.limited-count.ensures ∙ ap (limited c.args.limit) c.len.ensures in
    let then : changed told (take c.limited-count.result cs) ≡ told_then c.args.limit told (changed told cs) = ap (λ n. changed told (take n cs)) count ∙ sym (told_are told cs kept.rising kept.differ c.args.limit) in
    let same : map entry_tag (filter (is_gone a.counts.items) c.in_ok-leaving.leaving.items) ≡ gone_tags c.args.self.now.told (told_then c.args.limit c.args.self.now.told c.args.self.now.present) c.args.self.now.present =
    gone_are told cs kept.rising kept.differ c.limited-count.result c.in_ok-leaving.leaving.items a.counts.items c.in_ok-leaving.ensures kept.counts
    ∙ ap (λ m. gone_tags told m (changed told cs)) then
    ∙ ap (λ (q : Queued). gone_tags q.told (told_then c.args.limit q.told q.present) q.present) c.self.view_is in
    subst (λ (ts : List Tag). IfOk c.gone.result (λ tags. tags.items ≡ ts)) same c.gone.ensures
