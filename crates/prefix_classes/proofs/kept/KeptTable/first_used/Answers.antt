-- The first place with members is the first tag that is seen with some.
use Rattle.std.proofs.Common.{find, filter, sym, ap, ◌∙◌}
use Rattle.std.specs.Prelude.{Option, Some}
use Rattle.std.specs.Option.{option_map}
use Rattle.net_types.specs.declared.address.Tag.{Tag}
use Rattle.tag_table.specs.Held.{Held}
use Rattle.prefix_classes.proofs.NextLemmas.{above_is_greater, all_pass}
use Rattle.prefix_classes.proofs.ShownLemmas.{above-shown}
use Rattle.prefix_classes.specs.Counts.{has_members, is_above, tag_of}
use Rattle.prefix_classes.specs.Slots.{shown_items}
use Rattle.prefix_classes.specs.declared.members.Kept.{Kept}
use Rattle.prefix_classes.proofs.kept.KeptTable.first_used.Goals as goal

pub returns-in-None : goal.returns-in-None
returns-in-None c =
    let slots = c.self.inside.shared.items in
    c.first_with_members.ensures slots
    ∙ ap (λ es. option_map tag_of (find has_members es)) (ap (shown_items slots) c.iter.ensures ∙ ap (λ (s : Held Kept). s.items) c.self.view_is ∙ all_pass c.args.self.now.items)
    ∙ ap (λ (after : Option Tag). option_map tag_of (find has_members (filter (is_above after) c.args.self.now.items))) (sym c.in-None.is)

pub returns-in-Some : goal.returns-in-Some
returns-in-Some c =
    let slots = c.self.inside.shared.items in
    let above_are = ap (shown_items slots) c.iter_after.ensures ∙ above-shown slots c.in-Some.tag c.self.inside.places.items
    ∙ above_is_greater c.in-Some.tag (shown_items slots c.self.inside.places.items) ∙ ap (λ (s : Held Kept). filter (is_above (Some c.in-Some.tag)) s.items) c.self.view_is in
    c.first_with_members-in-Some.ensures slots
    ∙ ap (λ es. option_map tag_of (find has_members es)) above_are
    ∙ ap (λ (after : Option Tag). option_map tag_of (find has_members (filter (is_above after) c.args.self.now.items))) (sym c.in-Some.is)
