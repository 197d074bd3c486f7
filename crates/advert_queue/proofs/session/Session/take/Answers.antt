use Rattle.std.proofs.Common.{◌≡◌, length, take, sym, ap, ◌∙◌, arith}
use Rattle.advert_queue.proofs.SessionLemmas.{none_more, taken_kept}
use Rattle.advert_queue.proofs.TakenLemmas.{limited-le, told_are}
use Rattle.advert_queue.specs.Changes.{changed, limited}
use Rattle.advert_queue.specs.Kept.{Queued}
use Rattle.advert_queue.specs.Taken.{told_then}
use Rattle.advert_queue.proofs.session.Session.take.Goals as goal

pub tell-requires : goal.tell-requires
tell-requires c =
    let a = c.self.inside in
    let most = limited-le c.args.limit c.len.result in
    record {
      enough = (let count = c.limited-count.ensures in let len = c.len.ensures in omega (arith, most, count, len));
      kept = none_more a.told a.news a.counts a.places c.self.invariant.tellable;
    }

pub invariant_of-self : goal.invariant_of-self
invariant_of-self c =
    let a = c.self.inside in
    let all = c.tell.ensures in
    taken_kept a.told c.tell.new.told a.news c.tell.new.news a.counts c.tell.new.counts a.places c.self.invariant (all.kept a.places c.self.invariant.tellable) all.room

pub returns-clause-told : goal.returns-clause-told
returns-clause-told c =
    let a = c.self.inside in
    let count : c.limited-count.result ≡ limited c.args.limit (length a.news.items) = c.limited-count.ensures ∙ ap (limited c.args.limit) c.len.ensures in
    c.tell.ensures.told ∙ ap (λ n. changed a.told.map (take n a.news.items)) count
    ∙ sym (told_are a.told.map a.news.items c.self.invariant.tellable.rising c.self.invariant.tellable.differ c.args.limit)
    ∙ ap (λ (q : Queued). told_then c.args.limit q.told q.present) c.self.view_is

pub returns-clause-present : goal.returns-clause-present
returns-clause-present c = c.tell.ensures.present ∙ ap (λ (q : Queued). q.present) c.self.view_is
