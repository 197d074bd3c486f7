use Rattle.std.proofs.Common.{ap, ◌∙◌}
use Rattle.advert_queue.proofs.TakenLemmas.{found_differs}
use Rattle.advert_queue.specs.Kept.{Queued}
use Rattle.advert_queue.specs.Telling.{is_pending}
use Rattle.advert_queue.proofs.session.Session.is_pending.Goals as goal

pub returns : goal.returns
returns c =
    let kept = c.self.invariant.tellable in
    c.has_news.ensures ∙ found_differs c.self.inside.told.map c.self.inside.news.items kept.rising kept.differ c.args.prefix ∙ ap (λ (q : Queued). is_pending q.told q.present c.args.prefix) c.self.view_is
