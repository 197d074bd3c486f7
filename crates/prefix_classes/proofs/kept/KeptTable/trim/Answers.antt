-- The signatures that are shared are trimmed, and so are those that tags have alone.
use Rattle.std.proofs.Common.{length, map, ap, ◌∙◌}
use Rattle.prefix_classes.proofs.SlotLemmas.{trimmed_are_shared, trimmed_shown, written}
use Rattle.prefix_classes.specs.Slots.{trimmed_shared}
use Rattle.prefix_classes.specs.Trimmed.{trimmed_entry}
use Rattle.prefix_classes.proofs.kept.KeptTable.trim.Goals as goal

pub invariant_of-self : goal.invariant_of-self
invariant_of-self c =
    let shared = c.self.inside.shared in
    let size = c.trim_shared.auto.shared ∙ ap length c.deref_mut.ensures.value in
    trimmed_are_shared c.args.who c.args.named.now shared.items _
    (written shared.len c.trim_shared.new.shared shared.items size shared.ok.0 ∙ c.trim_shared.ensures ∙ ap (map (trimmed_shared c.args.who c.args.named.now)) c.deref_mut.ensures.value)
    c.self.inside.places.items c.change_all.new.self.items c.change_all.ensures.items c.self.invariant c.change_all.ensures.rising

pub returns-clause-items : goal.returns-clause-items
returns-clause-items c =
    let shared = c.self.inside.shared in
    let size = c.trim_shared.auto.shared ∙ ap length c.deref_mut.ensures.value in
    trimmed_shown c.args.who c.args.named.now shared.items _
    (written shared.len c.trim_shared.new.shared shared.items size shared.ok.0 ∙ c.trim_shared.ensures ∙ ap (map (trimmed_shared c.args.who c.args.named.now)) c.deref_mut.ensures.value)
    c.self.inside.places.items c.change_all.new.self.items c.change_all.ensures.items
    ∙ ap (λ s. map (trimmed_entry c.args.who c.args.named.now) s.items) c.self.view_is
