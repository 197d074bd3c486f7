use Rattle.std.proofs.Common.{sym, ap, ◌∙◌}
use Rattle.std.specs.FinMap.{FinMap}
use Rattle.std.specs.List.{list_any}
use Rattle.events.specs.Tags.{tells}
use Rattle.events.specs.declared.Entry.{Entry}
use Rattle.net_types.proofs.PassLemmas.{any_map}
use Rattle.net_types.specs.Keys.{prefix_cmp}
use Rattle.advert_queue.specs.Advertised.{Advertised, is_told}
use Rattle.advert_queue.specs.Kept.{Queued}
use Rattle.advert_queue.proofs.participants.Adverts.is_told.Goals as goal

pub returns : goal.returns
returns c =
    c.some_tells.ensures ∙ ap (list_any (λ (q : Queued). tells q.told c.args.tag)) c.deref.ensures.value
    ∙ sym (any_map (λ (m : FinMap prefix_cmp Entry). tells m c.args.tag) (λ (q : Queued). q.told) c.self.inside.sessions.items)
    ∙ ap (λ (a : Advertised). is_told a.told c.args.tag) c.self.view_is
