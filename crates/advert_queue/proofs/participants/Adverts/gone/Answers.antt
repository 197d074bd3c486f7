use Rattle.std.proofs.Common.{◌≡◌, List, subst}
use Rattle.std.specs.Prelude.{IfOk}
use Rattle.net_types.specs.declared.address.Tag.{Tag}
use Rattle.advert_queue.specs.Taken.{gone_tags, told_then}
use Rattle.advert_queue.proofs.participants.Adverts.gone.Goals as goal

pub returns : goal.returns
returns c =
    subst (λ (ts : List Tag). IfOk c.gone.result (λ tags. tags.items ≡ ts))
    (λ i. gone_tags (c.session.ensures.told i) (told_then c.args.limit (c.session.ensures.told i) (c.session.ensures.present i)) (c.session.ensures.present i)) c.gone.ensures
