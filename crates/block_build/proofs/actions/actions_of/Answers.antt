-- Moved actions are the same actions once they are in order.
use Rattle.std.proofs.Common.{◌≡◌, List, IsPermutation, ap, ◌∙◌}
use Rattle.std.proofs.lemmas.List.{with_items_is}
use Rattle.std.proofs.lemmas.List.Sorted.{IsPermutation-sym}
use Rattle.net_types.proofs.ActionOrder.{actions_total, actions_tie}
use Rattle.net_types.proofs.MemberLemmas.{Member-permutation}
use Rattle.net_types.proofs.OrderedLemmas.{ordered_alike}
use Rattle.net_types.specs.Actions.{action_cmp}
use Rattle.net_types.specs.Maps.{ordered}
use Rattle.net_types.specs.declared.actions.Action.{Action}
use Rattle.block_build.proofs.actions.actions_of.Goals as goal

ordered_moved : (xs ys : List Action) → IsPermutation xs ys → ordered action_cmp ys ≡ ordered action_cmp xs
ordered_moved xs ys moved = ordered_alike action_cmp actions_total actions_tie ys xs (record {
  onto = λ x. Member-permutation ys xs x (IsPermutation-sym xs ys moved);
  back = λ x. Member-permutation xs ys x moved;
})

pub returns : goal.returns
returns c =
    c.from_vec.ensures
    ∙ ap (ordered action_cmp) (with_items_is c.in_ok-actions.actions c.settle.new.actions (c.settle.auto.actions ∙ c.as_mut_slice.ensures.len))
    ∙ ordered_moved c.as_mut_slice.result.now c.settle.new.actions c.settle.ensures
    ∙ ap (ordered action_cmp) (c.as_mut_slice.ensures.value ∙ c.in_ok-actions.ensures)
