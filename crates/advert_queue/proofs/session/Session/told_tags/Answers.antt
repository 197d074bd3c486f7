use Rattle.std.proofs.Common.{◌≡◌, List, filter, map, ap, subst, ◌∙◌}
use Rattle.std.specs.Prelude.{IfOk}
use Rattle.net_types.specs.declared.address.Tag.{Tag}
use Rattle.advert_queue.proofs.GoneLemmas.{counted_tags}
use Rattle.advert_queue.specs.Changes.{changed}
use Rattle.advert_queue.specs.Counts.{entry_tag, is_told_tag}
use Rattle.advert_queue.specs.Kept.{Queued}
use Rattle.advert_queue.specs.Telling.{tags_of}
use Rattle.advert_queue.proofs.session.Session.told_tags.Goals as goal

pub returns : goal.returns
returns c =
    let a = c.self.inside in
    let same : map entry_tag (filter is_told_tag a.counts.items) ≡ tags_of c.args.self.now.told =
    counted_tags a.counts.items a.told.map (changed a.told.map a.news.items) c.self.invariant.tellable.counts ∙ ap (λ (q : Queued). tags_of q.told) c.self.view_is in
    subst (λ (ts : List Tag). IfOk c.told_tags.result (λ tags. tags.items ≡ ts)) same c.told_tags.ensures
