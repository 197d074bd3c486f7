use Rattle.std.proofs.Common.{◌<◌, ◌∙◌, ℕ, List, length, sym, ap, subst}
use Rattle.net_types.specs.Sets.{Member, SameMembers}
use Rattle.net_types.proofs.SetLemmas
use Rattle.classifier.specs.Items.{Item}
use Rattle.policy_compile.specs.declared.rows.Row.{Row}
use Rattle.policy_compile.specs.Rows.{AreRows, joined}
use Rattle.policy_compile.proofs.RowLemmas.{rows-more}
use Rattle.policy_compile.proofs.rows.Rows.results_of.Goals as goal

pub made-requires-clause-inside : goal.made-requires-clause-inside
made-requires-clause-inside c = subst (λ (ns : List ℕ). (n : ℕ) → Member n ns → n < length c.args.self.now) (sym c.deref-3.ensures.value) c.requires.inside

pub invariant_of-self-2 : goal.invariant_of-self-2
invariant_of-self-2 c =
    let lists = c.self.inside.lists.items in
    let row : Row = record { numbers = c.args.numbers; results = c.in_ok-kept.kept } in
    let made : SameMembers c.in_ok-results.results (joined lists c.args.numbers.items) = SetLemmas.same_trans c.in_ok-results.ensures (SetLemmas.same_eq (ap (λ (ls : List (List Item)). joined ls c.deref-3.result.now) (sym c.self.view_is) ∙ ap (joined lists) c.deref-3.ensures.value)) in
    subst (λ (rows : List Row). AreRows lists c.self.inside.is_distinct rows) (sym c.in_ok-push-2.ensures.items)
    (rows-more lists c.self.inside.is_distinct c.self.inside.rows.items row c.self.invariant (SetLemmas.same_trans (SetLemmas.same_eq c.in_ok-kept.ensures) made))
