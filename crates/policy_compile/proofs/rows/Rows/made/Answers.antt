use Rattle.std.proofs.Common.{◌<◌, ◌∙◌, ℕ, List, length, sym, ap, subst}
use Rattle.net_types.specs.Sets.{HasNoRepeats, Member}
use Rattle.net_types.proofs.SetLemmas
use Rattle.classifier.specs.Items.{Item}
use Rattle.policy_compile.specs.Rows.{joined}
use Rattle.policy_compile.proofs.RowLemmas.{joined-once}
use Rattle.policy_compile.proofs.rows.Rows.made.Goals as goal
use Rattle.policy_compile.proofs.rows.Rows.made.Goals.{then-self+in_ok-results, else-self+in_ok-results-2}

pub joined_of-requires-clause-inside : goal.joined_of-requires-clause-inside
joined_of-requires-clause-inside c =
    subst (λ (ls : List (List Item)). (n : ℕ) → Member n c.args.numbers.now → n < length ls) (sym (c.deref.ensures.value ∙ c.self.view_is)) c.requires.inside

pub joined_of-requires-clause-once : goal.joined_of-requires-clause-once
joined_of-requires-clause-once c =
    subst (λ (ls : List (List Item)). HasNoRepeats (joined ls c.args.numbers.now)) (sym c.deref.ensures.value) (joined-once c.self.inside.lists.items c.args.numbers.now (c.self.invariant.once c.if-self.true) c.requires.once)

pub gathered_of-requires : goal.gathered_of-requires
gathered_of-requires c =
    subst (λ (ls : List (List Item)). (n : ℕ) → Member n c.args.numbers.now → n < length ls) (sym (c.deref-else-self.ensures.value ∙ c.self.view_is)) c.requires.inside

pub returns : goal.returns
returns c = elim c.if-self.branch [
  | then-self+in_ok-results w ↦ SetLemmas.same_eq (w.results-is ∙ w.in_ok-results.ensures ∙ ap (λ (ls : List (List Item)). joined ls c.args.numbers.now) (w.deref.ensures.value ∙ c.self.view_is))
  | else-self+in_ok-results-2 w ↦
      SetLemmas.same_trans (SetLemmas.same_eq w.results-is) (SetLemmas.same_trans w.in_ok-results-2.ensures (SetLemmas.same_eq (ap (λ (ls : List (List Item)). joined ls c.args.numbers.now) (w.deref-else-self.ensures.value ∙ c.self.view_is))))
]
