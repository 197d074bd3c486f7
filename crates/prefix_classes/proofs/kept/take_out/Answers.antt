-- One tag less holds what the tag held.
use Rattle.std.proofs.Common.{length, ap, ◌∙◌}
use Rattle.prefix_classes.proofs.SlotLemmas.{held_counts, none_left, none_shared, took_left, took_shared, written}
use Rattle.prefix_classes.proofs.kept.take_out.Goals as goal

pub release-requires-clause-held : goal.release-requires-clause-held
release-requires-clause-held c = held_counts c.args.shared.now.items c.deref_mut.result.now c.args.tag c.args.places.now.items c.in-Some.place c.requires c.deref_mut.ensures.value c.in-Some.ensures.value

pub returns-in-Some-clause-shared : goal.returns-in-Some-clause-shared
returns-in-Some-clause-shared c =
    let shared = c.args.shared.now in
    let size = c.release.auto.shared ∙ ap length c.deref_mut.ensures.value in
    took_shared shared.items c.args.tag c.args.places.now.items c.remove.new.self.items c.requires c.remove.ensures.items c.remove.ensures.rising
    c.deref_mut.result.now c.deref_mut.ensures.value c.release.new.shared _ (written shared.len c.release.new.shared shared.items size shared.ok.0) c.in-Some.place c.in-Some.ensures.value c.release.ensures.tags c.release.ensures.used

pub returns-in-Some-clause-items : goal.returns-in-Some-clause-items
returns-in-Some-clause-items c =
    let shared = c.args.shared.now in
    let size = c.release.auto.shared ∙ ap length c.deref_mut.ensures.value in
    took_left shared.items c.args.tag c.args.places.now.items c.remove.new.self.items c.requires c.remove.ensures.items c.remove.ensures.rising
    c.deref_mut.result.now c.deref_mut.ensures.value c.release.new.shared _ (written shared.len c.release.new.shared shared.items size shared.ok.0) c.in-Some.place c.in-Some.ensures.value c.release.ensures.tags c.release.ensures.kept

pub returns-in-None-clause-shared : goal.returns-in-None-clause-shared
returns-in-None-clause-shared c = none_shared c.args.shared.now.items c.args.tag c.args.places.now.items c.remove.new.self.items c.requires c.remove.ensures.items c.remove.ensures.rising c.in-None.ensures.value

pub returns-in-None-clause-items : goal.returns-in-None-clause-items
returns-in-None-clause-items c = none_left c.args.shared.now.items c.args.tag c.args.places.now.items c.remove.new.self.items c.requires c.remove.ensures.items c.remove.ensures.rising
