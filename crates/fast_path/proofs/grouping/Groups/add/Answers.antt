-- A group that has a place is none more, and one that has none is one more, which has the next place.
use Rattle.std.proofs.Common.{◌≡◌, ◌++◌, ◌∷◌, [], length, false, nat_eq, sym, ap, ◌∙◌}
use Rattle.std.specs.Prelude.{is_some}
use Rattle.std.specs.FinMap.Entries.{find, put}
use Rattle.std.specs.List.{position_from}
use Rattle.std.proofs.lemmas.List.{length-map, map-append}
use Rattle.events.specs.Tags.{Group, same_group}
use Rattle.fast_path.proofs.GroupPlaces.{added_there, behind_count, behind_more, none_found, place_more, placed_there}
use Rattle.fast_path.specs.GroupOrder.{behind, group_cmp}
use Rattle.fast_path.specs.Grouping.{group_of_class, groups_of, one_more, same_class}
use Rattle.fast_path.proofs.grouping.Groups.add.Goals as goal

pub returns-then-is_some : goal.returns-then-is_some
returns-then-is_some c =
    placed_there c.args.before c.args.sig.now c.args.self.now (sym (c.is_some.ensures ∙ ap is_some c.place.ensures) ∙ c.if-is_some.true)

pub invariant_of-self-2 : goal.invariant_of-self-2
invariant_of-self-2 c =
    let g : Group = record { before = c.args.before; after = c.args.sig.now } in
    let fs = c.self.inside.fresh.items in
    let es = c.self.inside.places.items in
    let none = ap (λ xs. is_some (position_from (same_class c.args.before c.args.sig.now) 0 xs)) c.self.view_is ∙ sym (c.is_some.ensures ∙ ap is_some c.place.ensures) ∙ c.if-is_some.false in
    let new = none_found c.args.before c.args.sig.now fs es c.self.invariant none in
    let some : nat_eq (length (groups_of fs)) 0 ≡ false = ap (λ n. nat_eq n 0) (length-map fs group_of_class ∙ sym c.self.inside.fresh.ok.0) ∙ sym c.is_empty.ensures ∙ c.if-is_empty.false in
    let at = c.len-place.ensures ∙ c.self.inside.fresh.ok.0 ∙ sym (length-map fs group_of_class) ∙ behind_count (groups_of fs) some in
    let more = place_more 1 (behind (groups_of fs)) es g c.len-place.result c.self.invariant new at in
    let now : groups_of c.push-2.new.self.items ≡ groups_of fs ++ g ∷ [] =
    ap groups_of c.in_ok-push-2.ensures.items ∙ map-append group_of_class fs _ ∙ ap (λ s. let h : Group = record { before = c.args.before; after = s } in groups_of fs ++ h ∷ []) c.in_ok-own.ensures in
    let places = c.put.ensures.items ∙ (λ i. put group_cmp (c.new.ensures i) c.len-place.result (c.reserve.ensures.items i)) in
    λ q. ap (find group_cmp q) places ∙ more q ∙ ap (position_from (same_group q) 1) (sym (ap behind now ∙ behind_more (groups_of fs) g some))

pub returns : goal.returns
returns c =
    let g : Group = record { before = c.args.before; after = c.args.sig.now } in
    let fs = c.self.inside.fresh.items in
    let none = ap (λ xs. is_some (position_from (same_class c.args.before c.args.sig.now) 0 xs)) c.self.view_is ∙ sym (c.is_some.ensures ∙ ap is_some c.place.ensures) ∙ c.if-is_some.false in
    ap groups_of c.in_ok-push-2.ensures.items ∙ map-append group_of_class fs _ ∙ ap (λ s. let h : Group = record { before = c.args.before; after = s } in groups_of fs ++ h ∷ []) c.in_ok-own.ensures
    ∙ added_there c.args.before c.args.sig.now fs none
    ∙ ap (λ xs. one_more (groups_of xs) g) c.self.view_is
