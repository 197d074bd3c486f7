use Rattle.std.proofs.Common.{◌||◌, ap, ◌∙◌}
use Rattle.events.specs.Tags.{tells}
use Rattle.advert_queue.proofs.CountLemmas.{found_either}
use Rattle.advert_queue.specs.Kept.{Queued}
use Rattle.advert_queue.proofs.session.Session.holds.Goals as goal

pub returns : goal.returns
returns c = c.is_used.ensures ∙ found_either _ _ _ c.args.tag c.self.invariant.tellable.counts ∙ ap (λ (q : Queued). tells q.told c.args.tag || tells q.present c.args.tag) c.self.view_is
