-- A place holds the same signature as before.
use Rattle.std.proofs.Common.{ap, ◌∙◌}
use Rattle.net_types.specs.Keys.{tag_cmp}
use Rattle.ordered_map.specs.Changes.{changed_at}
use Rattle.prefix_classes.specs.Recounted.{recounted}
use Rattle.prefix_classes.proofs.ShownLemmas.{sorted-shown}
use Rattle.prefix_classes.proofs.SlotLemmas.{recounted_shared, recounted_shown}
use Rattle.prefix_classes.proofs.kept.KeptTable.recount.Goals as goal

pub invariant_of-self : goal.invariant_of-self
invariant_of-self c = recounted_shared c.self.inside.shared.items c.args.change c.args.tag c.self.inside.places.items c.change.new.self.items c.change.ensures.items c.self.invariant c.change.ensures.rising

pub returns-clause-items : goal.returns-clause-items
returns-clause-items c =
    recounted_shown c.self.inside.shared.items c.args.change c.args.tag c.self.inside.places.items c.change.new.self.items c.change.ensures.items
    ∙ ap (λ s. changed_at tag_cmp c.args.tag (recounted c.args.change) s.items) c.self.view_is

pub returns-clause-rising : goal.returns-clause-rising
returns-clause-rising c = sorted-shown c.self.inside.shared.items c.change.new.self.items ∙ c.change.ensures.rising
