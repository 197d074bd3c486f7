use Rattle.std.proofs.Common.{arith, ◌≡◌, ◌<◌, ◌∙◌, ◌+◌, Some, List, length, slice_index_or, sym, ap, subst, take}
use Rattle.std.specs.List.{slice_get}
use Rattle.std.proofs.lemmas.List.{take_all, take_more}
use Rattle.std.proofs.lemmas.Option.{slice_get-get_or}
use Rattle.net_types.specs.Headers.{no_change}
use Rattle.net_types.proofs.FindLemmas.{slice_get-Member}
use Rattle.policy_compile.specs.declared.columns.Column.{Column}
use Rattle.policy_compile.specs.Columns.{AreCarried, IsCarried, Places, given}
use Rattle.policy_compile.proofs.ColumnLemmas.{columns-kept, renewed-more}
use Rattle.policy_compile.proofs.columns.Columns.renewed.Goals as goal

-- no column
abbrev none : Column
none = record { key = record { set = no_change; number = 0 }; set = 0 }

pub carry-requires-clause-inside : goal.carry-requires-clause-inside
carry-requires-clause-inside c =
    let columns = c.args.self.now in
    let items = c.deref-column-items.result.now in
    let i = c.loop-column.column-index in
    let x = slice_index_or items i none in
    let at : slice_get items i ≡ Some x = slice_get-get_or items i none c.loop-column-test.true in
    let stands = slice_get-Member columns.columns.items i x (ap (λ (cs : List Column). slice_get cs i) (sym c.deref-column-items.ensures.value) ∙ at) in
    subst (λ (sets : List Places). x.set < length sets) (sym c.deref.ensures.value) (columns.are.inside x stands)

pub carry-requires-clause-asked : goal.carry-requires-clause-asked
carry-requires-clause-asked c =
    subst (λ (sets : List Places). AreCarried sets c.loop-column.made.sets.sets.items c.loop-column.asked.noted.items) (sym c.deref.ensures.value) c.loop-column.invariant.carried

pub invariant_of-made : goal.invariant_of-made
invariant_of-made c =
    let known = c.loop-column.made in
    record { are = columns-kept known.sets.sets.items c.carry.new.self.sets.items known.columns.items known.unions.noted.items known.places.noted.items c.carry.ensures.kept known.are }

pub loop-column-preserved : goal.loop-column-preserved
loop-column-preserved c =
    let columns = c.args.self.now in
    let sets = columns.sets.sets.items in
    let known = c.loop-column.made in
    let now = c.carry.new.self.sets.items in
    let items = c.deref-column-items.result.now in
    let i = c.loop-column.column-index in
    let x = slice_index_or items i none in
    let at : slice_get items i ≡ Some x = slice_get-get_or items i none c.loop-column-test.true in
    let stands = slice_get-Member columns.columns.items i x (ap (λ (cs : List Column). slice_get cs i) (sym c.deref-column-items.ensures.value) ∙ at) in
    let carried : IsCarried sets now x.set c.in_ok-set.set =
    subst (λ (ss : List Places). IsCarried ss now x.set c.in_ok-set.set) c.deref.ensures.value c.in_ok-set.ensures.number in
    let asked : AreCarried sets now c.carry.new.asked.noted.items =
    subst (λ (ss : List Places). AreCarried ss now c.carry.new.asked.noted.items) c.deref.ensures.value c.in_ok-set.ensures.asked in
    record {
      given = λ k. renewed-more sets known.sets.sets.items now known.columns.items (take i items) (take (i + 1) items) x c.in_ok-set.set _ k (take_more items i none c.loop-column-test.true)
          known.are.inside c.carry.ensures.kept carried (c.in_ok-push_noted.ensures.given k) (c.loop-column.invariant.given k);
      below = λ n are. c.push_noted.ensures.below n (c.loop-column.invariant.below n are) (are x stands);
      carried = subst (λ (ss : List Places). AreCarried sets ss c.carry.new.asked.noted.items) (sym (ap (λ t. t.sets.items) c.push_noted.ensures.sets)) asked;
    }

pub returns-clause-given : goal.returns-clause-given
returns-clause-given c = λ k.
    let items = c.deref-column-items.result.now in
    c.loop-column.invariant.given k
    ∙ ap (λ (cs : List Column). given c.args.self.now.sets.sets.items cs k) (take_all c.loop-column.column-index items (omega (arith, c.loop-column-test.false)) ∙ c.deref-column-items.ensures.value)
