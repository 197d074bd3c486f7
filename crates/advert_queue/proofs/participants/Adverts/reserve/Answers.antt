use Rattle.std.proofs.Common.{ap, ◌∙◌, arith}
use Rattle.std.proofs.lemmas.Result.{on_ok_weaker}
use Rattle.advert_queue.proofs.PlacesOf.{declared, places_grows, places_then, present_same, tags_grows, tags_then, told_same}
use Rattle.advert_queue.specs.Advertised.{Advertised, places_of, tags_of_room}
use Rattle.advert_queue.proofs.participants.Adverts.reserve.Goals as goal

pub returns-clause-told : goal.returns-clause-told
returns-clause-told c =
    let qs = c.self.inside.sessions.items in
    let within = declared qs c.args.self.now c.args.who c.self.view_is c.requires.declared in
    told_same qs c.args.who c.index_mut.result.now within (c.index_mut.ensures.value) c.reserve.new.self c.reserve.ensures.told ∙ ap (λ (a : Advertised). a.told) c.self.view_is

pub returns-clause-present : goal.returns-clause-present
returns-clause-present c =
    let qs = c.self.inside.sessions.items in
    let within = declared qs c.args.self.now c.args.who c.self.view_is c.requires.declared in
    present_same qs c.args.who c.index_mut.result.now within (c.index_mut.ensures.value) c.reserve.new.self c.reserve.ensures.present ∙ ap (λ (a : Advertised). a.present) c.self.view_is

pub returns-clause-places : goal.returns-clause-places
returns-clause-places c =
    let qs = c.self.inside.sessions.items in
    let within = declared qs c.args.self.now c.args.who c.self.view_is c.requires.declared in
    on_ok_weaker c.reserve.result (λ room. (let here = places_then qs c.args.who c.index_mut.result.now within (c.index_mut.ensures.value) c.reserve.new.self in omega (arith, here, room))) c.reserve.ensures.places

pub returns-clause-tags : goal.returns-clause-tags
returns-clause-tags c =
    let qs = c.self.inside.sessions.items in
    let within = declared qs c.args.self.now c.args.who c.self.view_is c.requires.declared in
    on_ok_weaker c.reserve.result (λ room. (let here = tags_then qs c.args.who c.index_mut.result.now within (c.index_mut.ensures.value) c.reserve.new.self in omega (arith, here, room))) c.reserve.ensures.tags

pub returns-clause-places_kept : goal.returns-clause-places_kept
returns-clause-places_kept c =
    let qs = c.self.inside.sessions.items in
    let within = declared qs c.args.self.now c.args.who c.self.view_is c.requires.declared in
    λ other.
    let grows = places_grows qs c.args.who c.index_mut.result.now within (c.index_mut.ensures.value) c.reserve.new.self c.reserve.ensures.places_kept other in
    let same = ap (λ (a : Advertised). places_of a other) c.self.view_is in
    omega (arith, grows, same)

pub returns-clause-tags_kept : goal.returns-clause-tags_kept
returns-clause-tags_kept c =
    let qs = c.self.inside.sessions.items in
    let within = declared qs c.args.self.now c.args.who c.self.view_is c.requires.declared in
    λ other.
    let grows = tags_grows qs c.args.who c.index_mut.result.now within (c.index_mut.ensures.value) c.reserve.new.self c.reserve.ensures.tags_kept other in
    let same = ap (λ (a : Advertised). tags_of_room a other) c.self.view_is in
    omega (arith, grows, same)
