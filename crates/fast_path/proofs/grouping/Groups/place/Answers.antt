-- What is found is the group's place.
use Rattle.std.proofs.Common.{sym, ap, ◌∙◌}
use Rattle.std.specs.FinMap.Entries.{find}
use Rattle.std.specs.List.{position_from}
use Rattle.fast_path.proofs.GroupPlaces.{first_place, other_place}
use Rattle.fast_path.specs.GroupOrder.{group_cmp}
use Rattle.fast_path.specs.Grouping.{is_first_class, same_class}
use Rattle.fast_path.proofs.grouping.Groups.place.Goals as goal

pub returns-then-is_first : goal.returns-then-is_first
returns-then-is_first c =
    first_place c.args.before c.args.sig.now c.self.inside.fresh.items (sym (c.is_first.ensures ∙ ap (is_first_class c.args.before c.args.sig.now) c.deref.ensures.value) ∙ c.if-is_first.true)
    ∙ ap (position_from (same_class c.args.before c.args.sig.now) 0) c.self.view_is

pub returns : goal.returns
returns c =
    c.copied.ensures ∙ c.get.ensures
    ∙ ap (λ h. find group_cmp h c.self.inside.places.items) c.new.ensures
    ∙ other_place c.args.before c.args.sig.now c.self.inside.fresh.items c.self.inside.places.items c.self.invariant (sym (c.is_first.ensures ∙ ap (is_first_class c.args.before c.args.sig.now) c.deref.ensures.value) ∙ c.if-is_first.false)
    ∙ ap (position_from (same_class c.args.before c.args.sig.now) 0) c.self.view_is
