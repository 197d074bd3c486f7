use Rattle.std.proofs.Common.{◌≡◌, ◌∙◌, Some, List, slice_index_or, refl, sym, ap}
use Rattle.std.specs.List.{slice_get}
use Rattle.std.proofs.lemmas.Option.{get_or_from_slice_get, slice_get-get_or}
use Rattle.net_types.specs.declared.headers.Loc.TheVariants.{Stay}
use Rattle.place_sets.specs.Places.{has_place}
use Rattle.policy_compile.specs.Columns.{Places, given, set_at}
use Rattle.policy_compile.specs.Groups.{alone}
use Rattle.policy_compile.proofs.ColumnLemmas.{set-kept}
use Rattle.policy_compile.proofs.GroupLemmas.{alone-less, alone-more}
use Rattle.policy_compile.proofs.singles.add_each.Goals as goal
use Rattle.policy_compile.proofs.singles.add_each.Goals.{then-has+in_ok-add, else-has}

pub loop-place-preserved : goal.loop-place-preserved
loop-place-preserved c =
    let ls = c.args.locations.now in
    let old = c.args.made.now in
    let known = c.loop-place.made in
    let i = c.loop-place.place in
    let l = slice_index_or ls i Stay in
    let inside = c.loop-place-test.true in
    let at : slice_get ls i ≡ Some l = slice_get-get_or ls i Stay inside in
    let read : l ≡ slice_index_or ls i l = sym (get_or_from_slice_get ls i l l at) in
    let ways = has_place c.args.ways.now in
    elim c.if-has.branch [
      | then-has+in_ok-add w ↦ rw w.made-is (record {
        given = λ k. alone-more ls i c.args.number ways c.args.set l old.sets.sets.items known.sets.sets.items w.add.new.self.sets.sets.items known.columns.items w.add.new.self.columns.items k
            (alone ls (given old.sets.sets.items old.columns.items k)) inside at read (sym c.has.ensures ∙ w.if-has.true) (set-kept old.sets.sets.items known.sets.sets.items c.args.number c.loop-place.invariant.kept c.requires k)
            (w.in_ok-add.ensures.given k) (c.loop-place.invariant.given k);
        kept = λ n s there. w.in_ok-add.ensures.kept n s (c.loop-place.invariant.kept n s there);
      })
      | else-has w ↦ rw w.made-is (record {
        given = λ k. alone-less ls i ways c.args.set l (set_at old.sets.sets.items c.args.number k) (alone ls (given known.sets.sets.items known.columns.items k)) (alone ls (given old.sets.sets.items old.columns.items k)) inside read
            (sym c.has.ensures ∙ w.if-has.false) (c.loop-place.invariant.given k);
        kept = c.loop-place.invariant.kept;
      })
    ]
