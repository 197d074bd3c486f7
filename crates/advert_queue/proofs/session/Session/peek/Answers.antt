use Rattle.std.proofs.Common.{◌≡◌, List, sym, ap, subst, ◌∙◌, take}
use Rattle.std.specs.Prelude.{IfOk}
use Rattle.advert_queue.proofs.TakenLemmas.{first_are}
use Rattle.advert_queue.specs.Advertised.{first_pending}
use Rattle.advert_queue.specs.Changes.{Change}
use Rattle.advert_queue.specs.Kept.{Queued}
use Rattle.advert_queue.proofs.session.Session.peek.Goals as goal

pub returns : goal.returns
returns c =
    let a = c.self.inside in
    let same : take c.args.count a.news.items ≡ first_pending c.args.count c.args.self.now.told c.args.self.now.present =
    sym (first_are a.told.map a.news.items c.self.invariant.tellable.rising c.self.invariant.tellable.differ c.args.count) ∙ ap (λ (q : Queued). first_pending c.args.count q.told q.present) c.self.view_is in
    subst (λ (es : List Change). IfOk c.first_entries.result (λ entries. entries ≡ es)) same c.first_entries.ensures
