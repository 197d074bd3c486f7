-- A sorted list without repeats.
use Rattle.std.proofs.Common.{◌∙◌, rules}
use Rattle.std.specs.Ordering.{eq_by_cmp, is_lt}
use Rattle.std.proofs.lemmas.Fn.{dedup_same}
use Rattle.std.proofs.lemmas.List.Sorted.{answers_always, ranks_by}
use Rattle.net_types.specs.declared.actions.Action.{Action}
use Rattle.net_types.specs.Actions.{action_cmp}
use Rattle.net_types.proofs.ActionOrder.{actions_in_order, actions_total}
use Rattle.net_types.proofs.actions.put_in_order.Goals as goal

pub returns : goal.returns
returns c =
    let sorted = c.sort_unstable_by.ensures.sorted (λ x y. is_lt (action_cmp x y)) (ranks_by actions_total (λ (a : Action). a)) (answers_always _ _ _ (λ f a r next k. search rules)) in
    dedup_same _ (eq_by_cmp action_cmp) _ (λ x y b f' x' y' called. (search rules, search rules, search rules, search rules)) _ _ c.dedup_by.ensures.filtered
    ∙ actions_in_order c.args.actions.now.items c.sort_unstable_by.new.self.items c.sort_unstable_by.ensures.permutation sorted
