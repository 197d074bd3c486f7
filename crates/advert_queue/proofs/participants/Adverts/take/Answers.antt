use Rattle.std.proofs.Common.{sym, ap, ◌∙◌}
use Rattle.std.specs.Prelude.{slice_set}
use Rattle.advert_queue.proofs.PlacesOf.{declared, present_here, places_same, present_same, tags_same, told_here, told_set}
use Rattle.advert_queue.specs.Advertised.{Advertised, present_of, told_of}
use Rattle.advert_queue.specs.Taken.{told_then}
use Rattle.advert_queue.proofs.participants.Adverts.take.Goals as goal

pub returns-clause-told : goal.returns-clause-told
returns-clause-told c =
    let qs = c.self.inside.sessions.items in
    let within = declared qs c.args.self.now c.args.who c.self.view_is c.requires.declared in
    let told = told_here qs c.args.who c.index_mut.result.now within (c.index_mut.ensures.value) in
    let present = present_here qs c.args.who c.index_mut.result.now within (c.index_mut.ensures.value) in
    told_set qs c.args.who c.index_mut.result.now within (c.index_mut.ensures.value) c.take.new.self _ (c.take.ensures.told ∙ (λ i. told_then c.args.limit (sym told i) (sym present i)))
    ∙ ap (λ (a : Advertised). slice_set a.told c.args.who.0 (told_then c.args.limit (told_of a c.args.who) (present_of a c.args.who))) c.self.view_is

pub returns-clause-present : goal.returns-clause-present
returns-clause-present c =
    let qs = c.self.inside.sessions.items in
    let within = declared qs c.args.self.now c.args.who c.self.view_is c.requires.declared in
    present_same qs c.args.who c.index_mut.result.now within (c.index_mut.ensures.value) c.take.new.self c.take.ensures.present ∙ ap (λ (a : Advertised). a.present) c.self.view_is

pub returns-clause-places : goal.returns-clause-places
returns-clause-places c =
    let qs = c.self.inside.sessions.items in
    let within = declared qs c.args.self.now c.args.who c.self.view_is c.requires.declared in
    places_same qs c.args.who c.index_mut.result.now within (c.index_mut.ensures.value) c.take.new.self c.take.ensures.places ∙ ap (λ (a : Advertised). a.places) c.self.view_is

pub returns-clause-tags : goal.returns-clause-tags
returns-clause-tags c =
    let qs = c.self.inside.sessions.items in
    let within = declared qs c.args.self.now c.args.who c.self.view_is c.requires.declared in
    tags_same qs c.args.who c.index_mut.result.now within (c.index_mut.ensures.value) c.take.new.self c.take.ensures.tags ∙ ap (λ (a : Advertised). a.tags) c.self.view_is
