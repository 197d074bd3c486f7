use Rattle.std.proofs.Common.{arith, ◌≡◌, ◌<◌, ◌∙◌, ◌++◌, ◌+◌, Some, List, length, map, slice_index_or, sym, ap, subst, take}
use Rattle.std.specs.List.{slice_get}
use Rattle.std.proofs.lemmas.List.{take_all, take_more}
use Rattle.std.proofs.lemmas.Option.{slice_get-get_or}
use Rattle.net_types.specs.Headers.{no_change}
use Rattle.net_types.specs.Sets.{SameMembers, union_over}
use Rattle.net_types.proofs.FindLemmas.{slice_get-Member}
use Rattle.policy_compile.specs.declared.columns.Column.{Column}
use Rattle.policy_compile.specs.declared.columns.Key.{Key}
use Rattle.policy_compile.specs.Columns.{AreCarried, IsCarried, Places, given}
use Rattle.policy_compile.specs.Groups.{AreMoved, IsMoved, ways_of}
use Rattle.policy_compile.specs.Given.{given_by}
use Rattle.policy_compile.specs.Paths.{after_item}
use Rattle.policy_compile.proofs.ColumnLemmas.{all-carried, columns-kept}
use Rattle.policy_compile.proofs.GroupLemmas.{after-more, below-kept}
use Rattle.policy_compile.proofs.groups.Groups.add_after.Goals as goal

-- no column
abbrev none : Column
none = record { key = record { set = no_change; number = 0 }; set = 0 }

pub moved_number-requires-clause-inside : goal.moved_number-requires-clause-inside
moved_number-requires-clause-inside c =
    let others = c.args.others.now in
    let items = c.deref-column-items.result.now in
    let i = c.loop-column.column-index in
    let x = slice_index_or items i none in
    let at : slice_get items i ≡ Some x = slice_get-get_or items i none c.loop-column-test.true in
    let stands = slice_get-Member others.columns.columns.items i x (ap (λ (cs : List Column). slice_get cs i) (sym c.deref-column-items.ensures.value) ∙ at) in
    subst (λ (sets : List Places). x.key.number < length sets) (sym c.deref.ensures.value) (others.are x stands)

pub moved_number-requires-clause-asked : goal.moved_number-requires-clause-asked
moved_number-requires-clause-asked c =
    subst (λ (sets : List Places). AreMoved c.args.locations.now c.args.loc sets c.loop-column.self.ways.sets.items c.loop-column.ways.noted.items) (sym c.deref.ensures.value) c.loop-column.invariant.moved

pub invariant_of-self : goal.invariant_of-self
invariant_of-self c =
    let known = c.loop-column.self in
    record { are = below-kept known.ways.sets.items c.moved_number.new.made.sets.items known.columns.columns.items c.moved_number.ensures.kept known.are }

pub carry-requires-clause-inside : goal.carry-requires-clause-inside
carry-requires-clause-inside c =
    let others = c.args.others.now in
    let items = c.deref-column-items.result.now in
    let i = c.loop-column.column-index in
    let x = slice_index_or items i none in
    let at : slice_get items i ≡ Some x = slice_get-get_or items i none c.loop-column-test.true in
    let stands = slice_get-Member others.columns.columns.items i x (ap (λ (cs : List Column). slice_get cs i) (sym c.deref-column-items.ensures.value) ∙ at) in
    subst (λ (sets : List Places). x.set < length sets) (sym c.deref-in-loop-column.ensures.value) (others.columns.are.inside x stands)

pub carry-requires-clause-asked : goal.carry-requires-clause-asked
carry-requires-clause-asked c =
    subst (λ (sets : List Places). AreCarried sets c.loop-column.self.columns.sets.sets.items c.loop-column.sets.noted.items) (sym c.deref-in-loop-column.ensures.value) c.loop-column.invariant.carried

pub invariant_of-self-in-loop-column : goal.invariant_of-self-in-loop-column
invariant_of-self-in-loop-column c =
    let known = c.loop-column.self.columns in
    (columns-kept known.sets.sets.items c.carry.new.self.sets.items known.columns.items known.unions.noted.items known.places.noted.items c.carry.ensures.kept known.are, tt)

pub invariant_of-self-in-Break-branch-2 : goal.invariant_of-self-in-Break-branch-2
invariant_of-self-in-Break-branch-2 c =
    let known = c.loop-column.self in
    record { are = below-kept known.ways.sets.items c.moved_number.new.made.sets.items known.columns.columns.items c.moved_number.ensures.kept known.are }

pub invariant_of-self-in-loop-column-2 : goal.invariant_of-self-in-loop-column-2
invariant_of-self-in-loop-column-2 c =
    let known = c.loop-column.self in
    record {
      are = c.add.ensures.below (length c.moved_number.new.made.sets.items) (below-kept known.ways.sets.items c.moved_number.new.made.sets.items known.columns.columns.items c.moved_number.ensures.kept known.are)
          c.in_ok-number.ensures.number.inside;
    }

pub loop-column-preserved : goal.loop-column-preserved
loop-column-preserved c =
    let ls = c.args.locations.now in
    let old = c.args.self.now in
    let others = c.args.others.now in
    let known = c.loop-column.self in
    let items = c.deref-column-items.result.now in
    let i = c.loop-column.column-index in
    let x = slice_index_or items i none in
    let ways = c.moved_number.new.made.sets.items in
    let moved : IsMoved ls c.args.loc others.ways.sets.items ways x.key.number c.in_ok-number.number =
    subst (λ (sets : List Places). IsMoved ls c.args.loc sets ways x.key.number c.in_ok-number.number) c.deref.ensures.value c.in_ok-number.ensures.number in
    let carried : IsCarried others.columns.sets.sets.items c.carry.new.self.sets.items x.set c.in_ok-places.places =
    subst (λ (sets : List Places). IsCarried sets c.carry.new.self.sets.items x.set c.in_ok-places.places) c.deref-in-loop-column.ensures.value c.in_ok-places.ensures.number in
    record {
      given = λ k. after-more ls c.args.loc c.args.set.now others.ways.sets.items known.ways.sets.items ways others.columns.sets.sets.items known.columns.sets.sets.items c.carry.new.self.sets.items c.add.new.self.sets.sets.items
          known.columns.columns.items c.add.new.self.columns.items (take i items) (take (i + 1) items) x (record { set = c.followed_by.result; number = c.in_ok-number.number }) c.in_ok-places.places k (given_by ls old k)
          (take_more items i none c.loop-column-test.true) known.are c.moved_number.ensures.kept known.columns.are.inside c.carry.ensures.kept c.followed_by.ensures moved carried (c.in_ok-add.ensures.given k) (c.loop-column.invariant.given k);
      moved = subst (λ (sets : List Places). AreMoved ls c.args.loc sets ways c.moved_number.new.asked.noted.items) c.deref.ensures.value c.in_ok-number.ensures.asked;
      carried = all-carried others.columns.sets.sets.items c.carry.new.self.sets.items c.add.new.self.sets.sets.items c.carry.new.asked.noted.items c.in_ok-add.ensures.kept
          (subst (λ (sets : List Places). AreCarried sets c.carry.new.self.sets.items c.carry.new.asked.noted.items) c.deref-in-loop-column.ensures.value c.in_ok-places.ensures.asked);
    }

pub invariant_of-self-2 : goal.invariant_of-self-2
invariant_of-self-2 c =
    let known = c.loop-column.self in
    record { are = c.lighten.ensures.below (length known.ways.sets.items) known.are }

pub returns : goal.returns
returns c = λ k.
    let ls = c.args.locations.now in
    let others = c.args.others.now in
    let known = c.loop-column.self in
    let items = c.deref-column-items.result.now in
    let whole = take_all c.loop-column.column-index items (omega (arith, c.loop-column-test.false)) ∙ c.deref-column-items.ensures.value in
    subst (λ (keys : List Key). SameMembers (union_over (ways_of ls known.ways.sets.items) keys) (given_by ls c.args.self.now k ++ map (after_item c.args.set.now c.args.loc) (given_by ls others k)))
    (sym (c.in_ok-lighten.ensures.given k))
    (subst (λ (cs : List Column). SameMembers (given_by ls known k) (given_by ls c.args.self.now k ++ map (after_item c.args.set.now c.args.loc) (union_over (ways_of ls others.ways.sets.items) (given others.columns.sets.sets.items cs k))))
    whole (c.loop-column.invariant.given k))
