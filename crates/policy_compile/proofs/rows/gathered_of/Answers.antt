use Rattle.std.proofs.Common.{◌∙◌, slice_index_or, refl, sym, ap}
use Rattle.net_types.proofs.MemberLemmas.{Member-at}
use Rattle.net_types.proofs.SetLemmas
use Rattle.classifier.specs.Items.{add_all}
use Rattle.classifier.proofs.DecideLemmas.{same_add_all}
use Rattle.policy_compile.specs.Rows.{list_at}
use Rattle.policy_compile.proofs.RowLemmas.{joined-more}
use Rattle.policy_compile.proofs.rows.gathered_of.Goals as goal

pub list_of-requires : goal.list_of-requires
list_of-requires c = c.requires _ (Member-at c.args.numbers.now c.loop-number.number-index 0 _ c.loop-number-test.true refl)

pub loop-number-preserved : goal.loop-number-preserved
loop-number-preserved c =
    let lists = c.args.lists.now in
    let numbers = c.args.numbers.now in
    let i = c.loop-number.number-index in
    let all = c.loop-number.all in
    let list = list_at lists (slice_index_or numbers i 0) in
    SetLemmas.same_trans (SetLemmas.same_eq (c.in_ok-push_each.ensures ∙ ap (add_all all) c.list_of.ensures)) (SetLemmas.same_trans (same_add_all all list)
    (SetLemmas.same_trans (SetLemmas.same_append c.loop-number.invariant (SetLemmas.same_refl list)) (SetLemmas.same_eq (sym (joined-more lists numbers i 0 c.loop-number-test.true)))))
