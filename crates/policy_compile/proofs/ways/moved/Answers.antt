use Rattle.std.proofs.Common.{arith, ◌≡◌, Some, List, slice_index_or, map, refl, sym, subst, ◌∙◌, take}
use Rattle.std.specs.List.{slice_get}
use Rattle.std.proofs.lemmas.List.{take_all}
use Rattle.std.proofs.lemmas.Option.{get_or_from_slice_get, slice_get-get_or}
use Rattle.net_types.specs.declared.headers.Loc.{Loc}
use Rattle.net_types.specs.declared.headers.Loc.TheVariants.{Stay}
use Rattle.net_types.specs.Headers.{arrived}
use Rattle.net_types.specs.Sets.{Member, SameMembers}
use Rattle.net_types.proofs.SetLemmas
use Rattle.net_types.proofs.FindLemmas.{slice_get-Member}
use Rattle.place_sets.specs.Places.{has_place}
use Rattle.policy_compile.specs.Groups.{picked}
use Rattle.policy_compile.proofs.GroupLemmas.{moved-less, moved-more, picked-none}
use Rattle.policy_compile.proofs.ways.moved.Goals as goal
use Rattle.policy_compile.proofs.ways.moved.Goals.{then-has+in-Some+in_ok-put, then-has+in_default, else-has}

pub loop-place-init : goal.loop-place-init
loop-place-init c = SetLemmas.same_eq (picked-none c.args.locations.now (has_place c.none-next.result) c.none-next.ensures)

pub loop-place-preserved : goal.loop-place-preserved
loop-place-preserved c =
    let ls = c.args.locations.now in
    let i = c.loop-place.place in
    let l = slice_index_or ls i Stay in
    let inside = c.loop-place-test.true in
    let ways = has_place c.args.ways.now in
    let old = has_place c.loop-place.next in
    let at : slice_get ls i ≡ Some l = slice_get-get_or ls i Stay inside in
    let same : l ≡ slice_index_or ls i l = sym (get_or_from_slice_get ls i l l at) in
    elim c.if-has.branch [
      | then-has+in-Some+in_ok-put w ↦ rw w.next-is (moved-more ls i w.in-Some.other ways old (has_place w.put.new.self) l w.after.result c.args.loc inside same (sym c.has.ensures ∙ w.if-has.true) w.in-Some.ensures.found w.after.ensures w.in_ok-put.ensures.put c.loop-place.invariant)
      | then-has+in_default w ↦ absurd (w.place_of.ensures.absent w.in_default.is (subst (λ (y : Loc). Member y ls) (sym w.after.ensures) (c.requires l (slice_get-Member ls i l at))))
      | else-has w ↦ rw w.next-is (moved-less ls i ways old l c.args.loc inside same (sym c.has.ensures ∙ w.if-has.false) c.loop-place.invariant)
    ]

pub returns : goal.returns
returns c =
    let ls = c.args.locations.now in
    subst (λ (xs : List Loc). SameMembers (picked ls (has_place c.loop-place.next)) (map (λ l. arrived l c.args.loc) (picked xs (has_place c.args.ways.now)))) (take_all c.loop-place.place ls (omega (arith, c.loop-place-test.false))) c.loop-place.invariant
