-- One tag more holds what it was given.
use Rattle.std.proofs.Common.{ap, ◌∙◌}
use Rattle.std.specs.FinMap.Entries.{find, put}
use Rattle.net_types.specs.Keys.{tag_cmp}
use Rattle.prefix_classes.proofs.ShownLemmas.{sorted-shown}
use Rattle.prefix_classes.proofs.SlotLemmas.{put_shared, put_shown}
use Rattle.prefix_classes.proofs.kept.KeptTable.put.Goals as goal

pub invariant_of-self : goal.invariant_of-self
invariant_of-self c =
    put_shared c.self.inside.shared.items c.hold-held.new.shared.items c.args.tag c.hold-held.result c.args.kept.sig c.args.kept.members c.self.inside.places.items c.put.new.self.items c.self.invariant c.put.ensures.items
    (ap (λ s. find tag_cmp c.args.tag s.items) c.self.view_is ∙ c.requires.new) c.put.ensures.rising c.hold-held.ensures.tags c.hold-held.ensures.used

pub returns-clause-items : goal.returns-clause-items
returns-clause-items c =
    put_shown c.self.inside.shared.items c.hold-held.new.shared.items c.args.tag c.hold-held.result c.args.kept.sig c.args.kept.members c.self.inside.places.items c.put.new.self.items c.self.invariant c.put.ensures.items c.hold-held.ensures.sig c.hold-held.ensures.kept
    ∙ ap (λ s. put tag_cmp c.args.tag c.args.kept s.items) c.self.view_is

pub returns-clause-rising : goal.returns-clause-rising
returns-clause-rising c = sorted-shown c.hold-held.new.shared.items c.put.new.self.items ∙ c.put.ensures.rising
