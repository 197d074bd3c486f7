use Rattle.std.proofs.Common.{◌∙◌, slice_index_or, sym, ap, take}
use Rattle.std.proofs.lemmas.List.{take_more}
use Rattle.net_types.specs.Headers.{no_change}
use Rattle.net_types.specs.declared.headers.Loc.TheVariants.{Stay}
use Rattle.classifier.specs.Items.{Item, add, add_all}
use Rattle.policy_compile.proofs.RowLemmas.{add_all-pushed}
use Rattle.policy_compile.proofs.rows.push_each.Goals as goal

-- no result
abbrev none : Item
none = (no_change, Stay)

pub loop-item-preserved : goal.loop-item-preserved
loop-item-preserved c =
    let all = c.args.all.now in
    let list = c.args.list.now in
    let i = c.loop-item.item-index in
    let x = slice_index_or list i none in
    c.in_ok-push.ensures ∙ ap (λ xs. add xs x) c.loop-item.invariant ∙ sym (add_all-pushed all (take i list) x) ∙ ap (add_all all) (sym (take_more list i none c.loop-item-test.true))
