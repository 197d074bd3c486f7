use Rattle.std.proofs.Common.{arith, ◌≡◌, ◌<◌, ◌∙◌, ◌+◌, Some, List, length, slice_index_or, refl, sym, ap, subst, take}
use Rattle.std.specs.List.{slice_get}
use Rattle.std.proofs.lemmas.List.{take_all, take_more}
use Rattle.std.proofs.lemmas.Option.{slice_get-get_or}
use Rattle.net_types.specs.Headers.{no_change}
use Rattle.net_types.specs.Sets.{SameMembers}
use Rattle.net_types.proofs.FindLemmas.{slice_get-Member}
use Rattle.policy_compile.specs.declared.columns.Column.{Column}
use Rattle.policy_compile.specs.Columns.{given}
use Rattle.policy_compile.specs.Groups.{turned}
use Rattle.policy_compile.proofs.ColumnLemmas.{all-carried, columns-kept}
use Rattle.policy_compile.proofs.GroupLemmas.{turned-more}
use Rattle.policy_compile.proofs.regroup.turn.Goals as goal

-- no column
abbrev none : Column
none = record { key = record { set = no_change; number = 0 }; set = 0 }

pub carry-requires-clause-inside : goal.carry-requires-clause-inside
carry-requires-clause-inside c =
    let columns = c.args.columns.now in
    let items = c.deref-column-items.result.now in
    let i = c.loop-column.column-index in
    let x = slice_index_or items i none in
    let at : slice_get items i ≡ Some x = slice_get-get_or items i none c.loop-column-test.true in
    c.requires x (slice_get-Member columns.columns.items i x (ap (λ (cs : List Column). slice_get cs i) (sym c.deref-column-items.ensures.value) ∙ at))

pub invariant_of-made : goal.invariant_of-made
invariant_of-made c =
    let known = c.loop-column.made in
    record { are = columns-kept known.sets.sets.items c.carry.new.self.sets.items known.columns.items known.unions.noted.items known.places.noted.items c.carry.ensures.kept known.are }

pub loop-column-preserved : goal.loop-column-preserved
loop-column-preserved c =
    let sets = c.args.sets.now in
    let columns = c.args.columns.now in
    let known = c.loop-column.made in
    let now = c.carry.new.self.sets.items in
    let made = c.add.new.self in
    let items = c.deref-column-items.result.now in
    let i = c.loop-column.column-index in
    let x = slice_index_or items i none in
    let at : slice_get items i ≡ Some x = slice_get-get_or items i none c.loop-column-test.true in
    let stands = slice_get-Member columns.columns.items i x (ap (λ (cs : List Column). slice_get cs i) (sym c.deref-column-items.ensures.value) ∙ at) in
    record {
      given = λ j. turned-more sets known.sets.sets.items now made.sets.sets.items known.columns.items made.columns.items (take i items) (take (i + 1) items) x (record { set = x.key.set; number = x.set }) c.in_ok-number.number j
          (take_more items i none c.loop-column-test.true) known.are.inside c.carry.ensures.kept refl c.in_ok-number.ensures.number (c.in_ok-add.ensures.given j) (c.loop-column.invariant.given j);
      below = c.add.ensures.below (length columns.sets.sets.items) c.loop-column.invariant.below (columns.are.inside x stands);
      carried = all-carried sets now made.sets.sets.items c.carry.new.asked.noted.items c.in_ok-add.ensures.kept c.in_ok-number.ensures.asked;
    }

pub returns-clause-given : goal.returns-clause-given
returns-clause-given c = λ j.
    let items = c.deref-column-items.result.now in
    let made = c.loop-column.made in
    let whole = take_all c.loop-column.column-index items (omega (arith, c.loop-column-test.false)) ∙ c.deref-column-items.ensures.value in
    subst (λ (cs : List Column). SameMembers (given made.sets.sets.items made.columns.items j) (turned c.args.sets.now cs j)) whole (c.loop-column.invariant.given j)
