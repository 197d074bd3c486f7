use Rattle.std.proofs.Common.{◌≡◌, ℕ, ◌≤◌, List, length, map, take, sym, ap, subst, ◌∙◌}
use Rattle.std.specs.Prelude.{IfOk, IfSome}
use Rattle.std.specs.FinMap.{get}
use Rattle.events.specs.declared.Entry.{Entry}
use Rattle.net_types.specs.declared.prefix.Prefix.{Prefix}
use Rattle.advert_queue.proofs.TakenLemmas.{messages_are, small_news}
use Rattle.advert_queue.specs.Changes.{limited, message_of}
use Rattle.advert_queue.specs.Kept.{Queued}
use Rattle.advert_queue.specs.Taken.{news_of}
use Rattle.advert_queue.specs.Telling.{adverts}
use Rattle.advert_queue.proofs.session.Session.messages.Goals as goal

pub first_messages-requires-clause-small : goal.first_messages-requires-clause-small
first_messages-requires-clause-small c =
    let a = c.self.inside in
    small_news a.told.map a.news.items c.self.invariant.tellable.rising c.self.invariant.tellable.differ
    (subst (λ (q : Queued). (p : Prefix) → IfSome (get q.present p) (λ (e : Entry). e.tag.0 ≤ 65536)) (sym c.self.view_is) c.requires.small)

pub returns : goal.returns
returns c =
    let a = c.self.inside in
    let count : c.limited-count.result ≡ limited c.args.limit (length a.news.items) = c.limited-count.ensures ∙ ap (limited c.args.limit) c.len.ensures in
    let same : map (message_of c.args.base) (take c.limited-count.result a.news.items) ≡ adverts c.args.base c.args.self.now.present (news_of c.args.limit c.args.self.now.told c.args.self.now.present) =
    ap (λ n. map (message_of c.args.base) (take n a.news.items)) count
    ∙ messages_are a.told.map a.news.items c.self.invariant.tellable.rising c.self.invariant.tellable.differ c.args.base c.args.limit
    ∙ ap (λ (q : Queued). adverts c.args.base q.present (news_of c.args.limit q.told q.present)) c.self.view_is in
    subst (λ (ms : List (List ℕ)). IfOk c.first_messages.result (λ messages. messages ≡ ms)) same c.first_messages.ensures
