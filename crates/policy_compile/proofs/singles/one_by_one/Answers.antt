use Rattle.std.proofs.Common.{arith, ◌≡◌, ◌<◌, ◌∙◌, ◌+◌, Some, List, length, slice_index_or, refl, sym, ap, subst, take}
use Rattle.std.specs.List.{slice_get}
use Rattle.std.proofs.lemmas.List.{take_all, take_more}
use Rattle.std.proofs.lemmas.Option.{slice_get-get_or}
use Rattle.net_types.specs.Headers.{no_change}
use Rattle.net_types.specs.Sets.{SameMembers, union_over}
use Rattle.net_types.proofs.FindLemmas.{slice_get-Member}
use Rattle.policy_compile.specs.declared.columns.Column.{Column}
use Rattle.policy_compile.specs.Columns.{AreCarried, IsCarried, Places, given}
use Rattle.policy_compile.specs.Groups.{alone, ways_of}
use Rattle.policy_compile.proofs.ColumnLemmas.{all-carried, columns-kept}
use Rattle.policy_compile.proofs.GroupLemmas.{singles-more}
use Rattle.policy_compile.proofs.singles.one_by_one.Goals as goal

-- no column
abbrev none : Column
none = record { key = record { set = no_change; number = 0 }; set = 0 }

pub carry-requires-clause-inside : goal.carry-requires-clause-inside
carry-requires-clause-inside c =
    let columns = c.args.groups.now.columns in
    let items = c.deref-column-items.result.now in
    let i = c.loop-column.column-index in
    let x = slice_index_or items i none in
    let at : slice_get items i ≡ Some x = slice_get-get_or items i none c.loop-column-test.true in
    let stands = slice_get-Member columns.columns.items i x (ap (λ (cs : List Column). slice_get cs i) (sym c.deref-column-items.ensures.value) ∙ at) in
    subst (λ (sets : List Places). x.set < length sets) (sym c.deref.ensures.value) (columns.are.inside x stands)

pub carry-requires-clause-asked : goal.carry-requires-clause-asked
carry-requires-clause-asked c =
    subst (λ (sets : List Places). AreCarried sets c.loop-column.made.sets.sets.items c.loop-column.asked.noted.items) (sym c.deref.ensures.value) c.loop-column.invariant.carried

pub invariant_of-made : goal.invariant_of-made
invariant_of-made c =
    let known = c.loop-column.made in
    record { are = columns-kept known.sets.sets.items c.carry.new.self.sets.items known.columns.items known.unions.noted.items known.places.noted.items c.carry.ensures.kept known.are }

pub index-requires : goal.index-requires
index-requires c =
    let groups = c.args.groups.now in
    let items = c.deref-column-items.result.now in
    let i = c.loop-column.column-index in
    let x = slice_index_or items i none in
    let at : slice_get items i ≡ Some x = slice_get-get_or items i none c.loop-column-test.true in
    let stands = slice_get-Member groups.columns.columns.items i x (ap (λ (cs : List Column). slice_get cs i) (sym c.deref-column-items.ensures.value) ∙ at) in
    subst (λ n. x.key.number < n) (sym groups.ways.sets.ok.0) (groups.are x stands)

pub loop-column-preserved : goal.loop-column-preserved
loop-column-preserved c =
    let ls = c.args.locations.now in
    let groups = c.args.groups.now in
    let known = c.loop-column.made in
    let now = c.carry.new.self.sets.items in
    let made = c.add_each.new.made in
    let items = c.deref-column-items.result.now in
    let i = c.loop-column.column-index in
    let x = slice_index_or items i none in
    let at : slice_get items i ≡ Some x = slice_get-get_or items i none c.loop-column-test.true in
    let stands = slice_get-Member groups.columns.columns.items i x (ap (λ (cs : List Column). slice_get cs i) (sym c.deref-column-items.ensures.value) ∙ at) in
    let carried : IsCarried groups.columns.sets.sets.items now x.set c.in_ok-places.places =
    subst (λ (sets : List Places). IsCarried sets now x.set c.in_ok-places.places) c.deref.ensures.value c.in_ok-places.ensures.number in
    record {
      given = λ k. singles-more ls groups.ways.sets.items groups.columns.sets.sets.items known.sets.sets.items now made.sets.sets.items known.columns.items made.columns.items (take i items) (take (i + 1) items) x c.index.result.now
          c.in_ok-places.places k (take_more items i none c.loop-column-test.true) known.are.inside c.carry.ensures.kept (groups.are x stands) c.index.ensures carried (c.in_ok-add_each.ensures.given k) (c.loop-column.invariant.given k);
      carried = all-carried groups.columns.sets.sets.items now made.sets.sets.items c.carry.new.asked.noted.items c.in_ok-add_each.ensures.kept
          (subst (λ (sets : List Places). AreCarried sets now c.carry.new.asked.noted.items) c.deref.ensures.value c.in_ok-places.ensures.asked);
    }

pub returns : goal.returns
returns c = λ k.
    let ls = c.args.locations.now in
    let groups = c.args.groups.now in
    let made = c.loop-column.made in
    let items = c.deref-column-items.result.now in
    let whole = take_all c.loop-column.column-index items (omega (arith, c.loop-column-test.false)) ∙ c.deref-column-items.ensures.value in
    subst (λ (cs : List Column). SameMembers (alone ls (given made.sets.sets.items made.columns.items k)) (union_over (ways_of ls groups.ways.sets.items) (given groups.columns.sets.sets.items cs k))) whole (c.loop-column.invariant.given k)
