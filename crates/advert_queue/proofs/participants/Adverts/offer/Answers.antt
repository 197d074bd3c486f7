use Rattle.std.proofs.Common.{◌<◌, sym, ap, subst, ◌∙◌, arith}
use Rattle.std.specs.Prelude.{IfSome}
use Rattle.events.specs.Pending.{with_news}
use Rattle.events.specs.declared.Entry.{Entry}
use Rattle.advert_queue.proofs.PlacesOf.{declared, place_cost_here, places_here, places_other, places_then, present_here, present_set, tags_here, tags_same, told_same}
use Rattle.advert_queue.specs.Advertised.{Advertised, offered, place_cost, places_of, present_of, tags_of_room, told_of}
use Rattle.advert_queue.proofs.participants.Adverts.offer.Goals as goal

pub offer-requires : goal.offer-requires
offer-requires c =
    let qs = c.self.inside.sessions.items in
    let within = declared qs c.args.self.now c.args.who c.self.view_is c.requires.declared in
    let places = places_here qs c.args.who c.index_mut.result.now within (c.index_mut.ensures.value) in
    let tags = tags_here qs c.args.who c.index_mut.result.now within (c.index_mut.ensures.value) in
    let place = place_cost_here qs c.args.who c.index_mut.result.now within (c.index_mut.ensures.value) c.args.prefix in
    let places_same = ap (λ (a : Advertised). places_of a c.args.who) c.self.view_is in
    let room_same = ap (λ (a : Advertised). tags_of_room a c.args.who) c.self.view_is in
    let place_same = ap (λ (a : Advertised). place_cost (told_of a c.args.who) (present_of a c.args.who) c.args.prefix) c.self.view_is in
    record {
      place = omega (arith, places, place, places_same, place_same, c.requires.place);
      tag = subst (λ n. IfSome c.args.entry (λ (e : Entry). e.tag.0 < n)) (sym room_same ∙ tags) c.requires.tag;
    }

pub returns-clause-told : goal.returns-clause-told
returns-clause-told c =
    let qs = c.self.inside.sessions.items in
    let within = declared qs c.args.self.now c.args.who c.self.view_is c.requires.declared in
    told_same qs c.args.who c.index_mut.result.now within (c.index_mut.ensures.value) c.offer.new.self c.offer.ensures.told ∙ ap (λ (a : Advertised). a.told) c.self.view_is

pub returns-clause-present : goal.returns-clause-present
returns-clause-present c =
    let qs = c.self.inside.sessions.items in
    let within = declared qs c.args.self.now c.args.who c.self.view_is c.requires.declared in
    let here = present_here qs c.args.who c.index_mut.result.now within (c.index_mut.ensures.value) in
    present_set qs c.args.who c.index_mut.result.now within (c.index_mut.ensures.value) c.offer.new.self _ (c.offer.ensures.present ∙ ap (λ m. with_news m c.args.prefix c.args.entry) (sym here))
    ∙ ap (λ (a : Advertised). offered a c.args.who c.args.prefix c.args.entry) c.self.view_is

pub returns-clause-places : goal.returns-clause-places
returns-clause-places c =
    let qs = c.self.inside.sessions.items in
    let within = declared qs c.args.self.now c.args.who c.self.view_is c.requires.declared in
    let here = places_here qs c.args.who c.index_mut.result.now within (c.index_mut.ensures.value) in
    let then = places_then qs c.args.who c.index_mut.result.now within (c.index_mut.ensures.value) c.offer.new.self in
    let same = ap (λ (a : Advertised). places_of a c.args.who) c.self.view_is in
    let cost = place_cost_here qs c.args.who c.index_mut.result.now within (c.index_mut.ensures.value) c.args.prefix in
    let cost_same = ap (λ (a : Advertised). place_cost (told_of a c.args.who) (present_of a c.args.who) c.args.prefix) c.self.view_is in
    omega (arith, here, then, same, cost, cost_same, c.offer.ensures.places)

pub returns-clause-tags : goal.returns-clause-tags
returns-clause-tags c =
    let qs = c.self.inside.sessions.items in
    let within = declared qs c.args.self.now c.args.who c.self.view_is c.requires.declared in
    tags_same qs c.args.who c.index_mut.result.now within (c.index_mut.ensures.value) c.offer.new.self c.offer.ensures.tags ∙ ap (λ (a : Advertised). a.tags) c.self.view_is

pub returns-clause-other_places : goal.returns-clause-other_places
returns-clause-other_places c =
    let qs = c.self.inside.sessions.items in
    let within = declared qs c.args.self.now c.args.who c.self.view_is c.requires.declared in
    λ other apart. places_other qs c.args.who c.index_mut.result.now within (c.index_mut.ensures.value) c.offer.new.self other apart ∙ ap (λ (a : Advertised). places_of a other) c.self.view_is
