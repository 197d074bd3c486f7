-- At first all are left.
use Rattle.std.proofs.Common.{◌++◌, [], ap, ◌∙◌}
use Rattle.tag_table.specs.Held.{Held}
use Rattle.prefix_classes.proofs.ShownLemmas.{used-shown}
use Rattle.prefix_classes.specs.Counts.{used_in}
use Rattle.prefix_classes.specs.Slots.{shown_items}
use Rattle.prefix_classes.specs.declared.members.Kept.{Kept}
use Rattle.prefix_classes.proofs.kept.KeptTable.used.Goals as goal

pub loop-tag-init : goal.loop-tag-init
loop-tag-init c =
    (λ i. c.in_ok-tags.ensures.items i ++ used_in (shown_items [] ((c.into_iter-tag-iterator.ensures.into_iter_gives ∙ c.iter-tag-items.ensures) i)))
    ∙ used-shown [] c.self.inside.shared.items c.self.inside.places.items ∙ ap (λ (s : Held Kept). used_in s.items) c.self.view_is
