use Rattle.std.proofs.Common.{arith, ◌≡◌, ◌+◌, ◌∙◌, ◌++◌, List, length, sym, ap, subst}
use Rattle.std.proofs.lemmas.List.{take_all}
use Rattle.net_types.specs.Sets.{HasNoRepeats, union_over}
use Rattle.classifier.specs.Items.{Item, add_all}
use Rattle.policy_compile.proofs.RowLemmas.{add-longer, add-whole, whole-more}
use Rattle.policy_compile.proofs.rows.are_distinct.Goals as goal

pub overflow_sub-items : goal.overflow_sub-items
overflow_sub-items c =
    let more = add-longer c.loop-list.all c.items.result.now in
    let before = ap length c.items-before.ensures in
    let now = ap length (c.items-in-loop-list.ensures ∙ c.in_ok-push_each.ensures) in
    omega (arith, more, before, now)

pub loop-list-preserved : goal.loop-list-preserved
loop-list-preserved c =
    let lists = c.args.lists.now in
    let i = c.loop-list.list-index in
    let all = c.loop-list.all in
    let list = c.list-item.result in
    let put : c.push_each.new.all ≡ add_all all list = c.in_ok-push_each.ensures ∙ ap (add_all all) c.items.ensures in
    let before = ap length c.items-before.ensures in
    let now = ap length (c.items-in-loop-list.ensures ∙ put) in
    let more = add-longer all list in
    let long : length (add_all all list) ≡ length all + length list = omega (arith, more, before, now, c.if-items-before.false, c.len.ensures) in
    put ∙ add-whole all list long ∙ ap (λ xs. xs ++ list) c.loop-list.invariant ∙ sym (whole-more lists i list c.loop-list-test.true c.list-item.is)

pub returns : goal.returns
returns c = λ _.
    subst HasNoRepeats (c.into_results.ensures ∙ c.loop-list.invariant ∙ ap (λ (ls : List (List Item)). union_over (λ l. l) ls) (take_all c.loop-list.list-index c.args.lists.now (omega (arith, c.loop-list-test.false)))) c.known-2.ensures
