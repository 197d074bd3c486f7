-- What is seen of a tag has the number of its place.
use Rattle.std.proofs.Common.{sym, ap, ◌∙◌}
use Rattle.std.specs.Prelude.{Option, option_copied}
use Rattle.std.specs.Option.{option_map}
use Rattle.tag_table.specs.Held.{Held}
use Rattle.prefix_classes.proofs.ShownLemmas.{find-shown}
use Rattle.prefix_classes.specs.Counts.{counted, members_of}
use Rattle.prefix_classes.specs.Slots.{shown}
use Rattle.prefix_classes.specs.declared.kept.Place.{Place}
use Rattle.prefix_classes.specs.declared.members.Kept.{Kept}
use Rattle.prefix_classes.proofs.kept.KeptTable.members.Goals as goal

pub returns-in-Some : goal.returns-in-Some
returns-in-Some c =
    ap (λ (o : Option Place). members_of (option_map (shown c.self.inside.shared.items) o)) (sym (ap option_copied c.in-Some.is) ∙ c.get.ensures)
    ∙ ap members_of (sym (find-shown c.self.inside.shared.items c.args.tag c.self.inside.places.items)) ∙ ap (λ (s : Held Kept). counted s.items c.args.tag) c.self.view_is

pub returns-in-None : goal.returns-in-None
returns-in-None c =
    ap (λ (o : Option Place). members_of (option_map (shown c.self.inside.shared.items) o)) (sym (ap option_copied c.in-None.is) ∙ c.get.ensures)
    ∙ ap members_of (sym (find-shown c.self.inside.shared.items c.args.tag c.self.inside.places.items)) ∙ ap (λ (s : Held Kept). counted s.items c.args.tag) c.self.view_is
