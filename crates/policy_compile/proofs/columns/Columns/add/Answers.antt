use Rattle.std.proofs.Common.{◌≡◌, ◌<◌, ◌∙◌, ◌++◌, ◌∷◌, [], cond, Some, List, length, slice_index_or, slice_set, sym, ap, subst}
use Rattle.std.specs.List.{slice_get}
use Rattle.std.specs.Option.{option_map}
use Rattle.std.proofs.lemmas.Option.{get_or_from_slice_get, slice_get-get_or}
use Rattle.net_types.specs.Sets.{SameMembers}
use Rattle.net_types.proofs.FindLemmas.{slice_get-Member}
use Rattle.policy_compile.specs.declared.columns.Column.{Column}
use Rattle.policy_compile.specs.declared.columns.Key.{Key}
use Rattle.policy_compile.specs.Columns.{AreBelow, given, set_at}
use Rattle.policy_compile.proofs.ColumnLemmas.{below-set, columns-set, given-added, item-read, place-inside}
use Rattle.policy_compile.proofs.columns.Columns.add.Goals as goal

pub index-requires : goal.index-requires
index-requires c =
    let old = c.args.self.now in
    let there = old.are.places_are (record { key = c.args.key; value = c.in-Some.place }) c.in-Some.ensures in
    subst (λ n. c.in-Some.place < n) (sym old.columns.ok.0) (place-inside old.columns.items c.in-Some.place c.args.key there)

pub union-requires-clause-first : goal.union-requires-clause-first
union-requires-clause-first c =
    let old = c.args.self.now in
    let cs = old.columns.items in
    let n = c.in-Some.place in
    let x = c.index.result.now in
    let there = old.are.places_are (record { key = c.args.key; value = n }) c.in-Some.ensures in
    let at : slice_get cs n ≡ Some x = slice_get-get_or cs n x (place-inside cs n c.args.key there) ∙ ap Some (sym c.index.ensures) in
    old.are.inside x (slice_get-Member cs n x at)

pub index_mut-requires : goal.index_mut-requires
index_mut-requires c =
    let old = c.args.self.now in
    let new = c.union.new.self in
    let n = c.in-Some.place in
    let there = old.are.places_are (record { key = c.args.key; value = n }) c.in-Some.ensures in
    subst (λ k. n < k) (sym new.columns.ok.0) (subst (λ (cs : List Column). n < length cs) (sym c.union.ensures.columns) (place-inside old.columns.items n c.args.key there))

pub invariant_of-self : goal.invariant_of-self
invariant_of-self c =
    let old = c.args.self.now in
    let new = c.union.new.self in
    let n = c.in-Some.place in
    let cs = new.columns.items in
    let x = c.index_mut.result.now in
    let there = old.are.places_are (record { key = c.args.key; value = n }) c.in-Some.ensures in
    let inside : n < length cs = subst (λ (ds : List Column). n < length ds) (sym c.union.ensures.columns) (place-inside old.columns.items n c.args.key there) in
    let at : slice_get cs n ≡ Some x = slice_get-get_or cs n x inside ∙ ap Some (sym c.index_mut.ensures.value) in
    record {
      are = columns-set new.sets.sets.items cs new.unions.noted.items new.places.noted.items n (record { key = x.key; set = c.in_ok-both-in-Some.both })
          c.in_ok-both-in-Some.ensures.union.inside (ap (option_map (λ (d : Column). d.key)) at) new.are;
    }

pub returns-in_ok-both-in-Some-clause-given : goal.returns-in_ok-both-in-Some-clause-given
returns-in_ok-both-in-Some-clause-given c = λ k.
    let old = c.args.self.now in
    let new = c.union.new.self in
    let n = c.in-Some.place in
    let cs = old.columns.items in
    let x = c.index.result.now in
    let y = c.index_mut.result.now in
    let there = old.are.places_are (record { key = c.args.key; value = n }) c.in-Some.ensures in
    let inside = place-inside cs n c.args.key there in
    let at : slice_get cs n ≡ Some x = slice_get-get_or cs n x inside ∙ ap Some (sym c.index.ensures) in
    let was = given old.sets.sets.items cs k ++ cond (set_at old.sets.sets.items c.args.set k) (c.args.key ∷ []) [] in
    let same : y ≡ x =
    c.index_mut.ensures.value ∙ ap (λ (ds : List Column). slice_index_or ds n y) c.union.ensures.columns ∙ get_or_from_slice_get cs n x y at in
    subst (λ (z : Column). SameMembers (given new.sets.sets.items (slice_set new.columns.items n (record { key = z.key; set = c.in_ok-both-in-Some.both })) k) was) (sym same)
    (subst (λ (ds : List Column). SameMembers (given new.sets.sets.items (slice_set ds n (record { key = x.key; set = c.in_ok-both-in-Some.both })) k) was) (sym c.union.ensures.columns)
    (given-added old.sets.sets.items new.sets.sets.items cs n x c.args.key c.in_ok-both-in-Some.both c.args.set c.union.ensures.kept old.are.inside c.requires at (item-read cs n c.args.key x there at) c.in_ok-both-in-Some.ensures.union k))

pub returns-in_ok-both-in-Some-clause-below : goal.returns-in_ok-both-in-Some-clause-below
returns-in_ok-both-in-Some-clause-below c = λ n are inside.
    let old = c.args.self.now in
    let new = c.union.new.self in
    let p = c.in-Some.place in
    let cs = old.columns.items in
    let x = c.index.result.now in
    let y = c.index_mut.result.now in
    let there = old.are.places_are (record { key = c.args.key; value = p }) c.in-Some.ensures in
    let at : slice_get cs p ≡ Some x = slice_get-get_or cs p x (place-inside cs p c.args.key there) ∙ ap Some (sym c.index.ensures) in
    let same : y ≡ x =
    c.index_mut.ensures.value ∙ ap (λ (ds : List Column). slice_index_or ds p y) c.union.ensures.columns ∙ get_or_from_slice_get cs p x y at in
    below-set n new.columns.items p (record { key = y.key; set = c.in_ok-both-in-Some.both }) (subst (AreBelow n) (sym c.union.ensures.columns) are)
    (subst (λ (k : Key). k.number < n) (sym (ap (λ (d : Column). d.key) same ∙ item-read cs p c.args.key x there at)) inside)

pub returns-in_err-both-in-Some-clause-below : goal.returns-in_err-both-in-Some-clause-below
returns-in_err-both-in-Some-clause-below c = λ n are inside. subst (AreBelow n) (sym c.union.ensures.columns) are
