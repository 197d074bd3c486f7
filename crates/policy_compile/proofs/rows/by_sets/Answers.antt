use Rattle.std.proofs.Common.{◌≡◌, ◌<◌, ◌+◌, ◌∙◌, Some, List, slice_index_or, sym, ap, subst, take}
use Rattle.std.specs.List.{slice_get}
use Rattle.std.proofs.lemmas.List.{take_more}
use Rattle.std.proofs.lemmas.Option.{slice_get-get_or}
use Rattle.net_types.proofs.FindLemmas.{slice_get-Member}
use Rattle.net_types.specs.Headers.{no_change}
use Rattle.policy_compile.specs.declared.columns.Column.{Column}
use Rattle.policy_compile.proofs.RowLemmas.{lists-more}
use Rattle.policy_compile.proofs.rows.by_sets.Goals as goal

-- no column
abbrev none : Column
none = record { key = record { set = no_change; number = 0 }; set = 0 }

pub push_result-requires : goal.push_result-requires
push_result-requires c =
    let columns = c.args.columns.now in
    let items = c.deref-column-items.result.now in
    let i = c.loop-column.column-index in
    let x = slice_index_or items i none in
    let at : slice_get items i ≡ Some x = slice_get-get_or items i none c.loop-column-test.true in
    let stands = slice_get-Member columns.columns.items i x (ap (λ (cs : List Column). slice_get cs i) (sym c.deref-column-items.ensures.value) ∙ at) in
    subst (λ n. x.set < n) (sym c.loop-column.invariant.long) (columns.are.inside x stands)

pub loop-column-preserved : goal.loop-column-preserved
loop-column-preserved c =
    let items = c.deref-column-items.result.now in
    let i = c.loop-column.column-index in
    let x = slice_index_or items i none in
    record {
      are = lists-more c.args.locations.now (take i items) (take (i + 1) items) x c.loop-column.lists.items c.push_result.new.lists.items (take_more items i none c.loop-column-test.true) c.in_ok-push_result.ensures.put c.loop-column.invariant.are;
      long = c.in_ok-push_result.ensures.long ∙ c.loop-column.invariant.long;
    }
