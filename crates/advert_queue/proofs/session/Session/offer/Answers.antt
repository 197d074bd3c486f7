use Rattle.std.proofs.Common.{◌<◌, ◌-◌, sym, ap, subst, ◌∙◌, arith}
use Rattle.std.specs.Prelude.{IfSome}
use Rattle.events.specs.declared.Entry.{Entry}
use Rattle.advert_queue.proofs.SessionLemmas.{can_rise, few_present, in_use, offered_kept, place_found, place_none, tag_room}
use Rattle.advert_queue.specs.Advertised.{place_cost}
use Rattle.advert_queue.specs.Changes.{changed, tag_in}
use Rattle.advert_queue.specs.Kept.{Queued}
use Rattle.advert_queue.specs.declared.counts.Side.TheVariants.{Present}
use Rattle.advert_queue.proofs.session.Session.offer.Goals as goal

pub note-before-requires : goal.note-before-requires
note-before-requires c =
    let a = c.self.inside in
    let kept = c.self.invariant.tellable in
    let places = ap (λ (q : Queued). q.places) c.self.view_is in
    let cost = ap (λ (q : Queued). place_cost q.told q.present c.args.prefix) c.self.view_is in
    record {
      rising = kept.rising;
      differ = kept.differ;
      room = λ none. (let one = place_none a.told.map a.news.items c.args.prefix kept.rising kept.differ none in omega (arith, places, cost, one, c.requires.place, c.self.invariant.news_room));
    }

pub move_use-requires : goal.move_use-requires
move_use-requires c =
    let a = c.self.inside in
    let kept = c.self.invariant.tellable in
    let below = subst (λ (q : Queued). IfSome c.args.entry (λ (e : Entry). e.tag.0 < q.tags)) (sym c.self.view_is) c.requires.tag in
    record {
      rising = kept.counts.rising;
      used = kept.counts.used;
      some = in_use Present a.counts.items (changed a.told.map a.news.items) c.args.prefix c.note-before.result (kept.counts.counts Present) c.note-before.ensures.before;
      room = tag_room a.counts.items a.counts.room c.args.entry c.tag_of-after.result (c.tag_of-after.ensures ∙ ap tag_in c.as_ref.ensures.value) below;
      small = can_rise Present a.counts.items (changed a.told.map a.news.items) c.tag_of-after.result (kept.counts.counts Present) (few_present a.told.map a.news.items a.places kept.fits);
    }

pub overflow_sub-self : goal.overflow_sub-self
overflow_sub-self c =
    let a = c.self.inside in
    let kept = c.self.invariant.tellable in
    let places = ap (λ (q : Queued). q.places) c.self.view_is in
    let cost = ap (λ (q : Queued). place_cost q.told q.present c.args.prefix) c.self.view_is in
    let found = place_found a.told.map a.news.items c.args.prefix kept.rising kept.differ in
    omega (arith, places, cost, found, c.requires.place, c.note-before.ensures.few, c.saturating_sub.ensures, c.len.ensures, c.len-pending.ensures)

pub invariant_of-self : goal.invariant_of-self
invariant_of-self c =
    let a = c.self.inside in
    let kept = c.self.invariant.tellable in
    let places = ap (λ (q : Queued). q.places) c.self.view_is in
    let cost = ap (λ (q : Queued). place_cost q.told q.present c.args.prefix) c.self.view_is in
    let found = place_found a.told.map a.news.items c.args.prefix kept.rising kept.differ in
    offered_kept a.told a.news c.note-before.new.news a.counts c.move_use.new.counts a.places (a.places - c.saturating_sub.result) c.args.prefix c.args.entry _ _ c.self.invariant
    (omega (arith, places, cost, found, c.requires.place, c.note-before.ensures.few, c.saturating_sub.ensures, c.len.ensures, c.len-pending.ensures))
    c.note-before.ensures.rising c.note-before.ensures.differ c.note-before.ensures.present c.note-before.ensures.room c.note-before.ensures.before
    (c.tag_of-after.ensures ∙ ap tag_in c.as_ref.ensures.value) c.move_use.ensures.counts

pub returns-clause-places : goal.returns-clause-places
returns-clause-places c =
    let a = c.self.inside in
    let kept = c.self.invariant.tellable in
    let places = ap (λ (q : Queued). q.places) c.self.view_is in
    let cost = ap (λ (q : Queued). place_cost q.told q.present c.args.prefix) c.self.view_is in
    let found = place_found a.told.map a.news.items c.args.prefix kept.rising kept.differ in
    omega (arith, places, cost, found, c.note-before.ensures.few, c.saturating_sub.ensures, c.len.ensures, c.len-pending.ensures)

pub returns-clause-tags : goal.returns-clause-tags
returns-clause-tags c = c.move_use.ensures.room ∙ ap (λ (q : Queued). q.tags) c.self.view_is
