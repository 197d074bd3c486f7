-- A line that builds rules is accepted with the reply that says what is dropped and added.
use Rattle.std.proofs.Common.{◌≡◌, ◌≤◌, Bool, sym, ap, subst, ◌∙◌, refl}
use Rattle.events.specs.After.{next, next_by, put_flows, rules_put, without_pairs}
use Rattle.events.specs.Fits.{Fits, IsAnswer, IsBuilt, dropped}
use Rattle.events.specs.Sound.{IsSound, rule_count}
use Rattle.events.specs.State.{State}
use Rattle.events.specs.Tags.{retagged}
use Rattle.events.specs.declared.Event.{Event}
use Rattle.events.specs.declared.Reply.{Reply}
use Rattle.exchange_laws.proofs.AcceptedChanges.{answer_built, puts_rules, rerouting_builds}
use Rattle.exchange_laws.proofs.Built.{changes_are_built}
use Rattle.exchange_laws.proofs.Flows.{replies_build_tables}
use Rattle.exchange_laws.proofs.FullTables.{accepted_lines_fit}
use Rattle.exchange_laws.proofs.Lists.{TableOf}
use Rattle.exchange_laws.proofs.Rerouted.{rerouted}
use Rattle.exchange_laws.proofs.RulesAfter.{tables_stay_sound}
use Rattle.exchange_laws.specs.Editing.{EditsAreAccepted, IsEdit, ReroutingsAreChanges, ReroutingsAreEdits}
use Rattle.exchange_laws.specs.Replies.{HasNewRules}
use Rattle.exchange_laws.specs.Rules.{AreRightBut, IsChange, IsTableAfter}
use Rattle.net_types.specs.Exports.{Routing}
use Rattle.net_types.specs.declared.rule.Pair.{Pair}

module _ (s : State) (e : Event) (s0 : State) (r : Routing) (is_rebuilt : Pair → Bool) (table : TableOf) (reply : Reply) (is : IsEdit s e s0 r is_rebuilt) (change : IsChange s0 r) (but : AreRightBut s0 is_rebuilt)
    (after : IsTableAfter s0 (retagged s0 r) is_rebuilt table) (has : HasNewRules s0 is_rebuilt table) (built : IsBuilt s0 (record (retagged s0 r) { table = table }) is_rebuilt reply) where
  abbrev s1 : State
  s1 = record (retagged s0 r) { table = table }

  table_is : put_flows (without_pairs s.table reply.drops) (rules_put e reply) ≡ table
  table_is =
      ap (λ t. put_flows (without_pairs t reply.drops) (rules_put e reply)) (sym is.table)
      ∙ ap (λ ds. put_flows (without_pairs s0.table ds) (rules_put e reply)) built.drops
      ∙ ap (put_flows (without_pairs s0.table (dropped s0 s1 is_rebuilt))) (puts_rules e reply is.building ∙ built.adds)
      ∙ replies_build_tables s0 s1 is_rebuilt (changes_are_built s0 r is_rebuilt table change.tagged after has)

  next_is : next s e reply ≡ s1
  next_is = ap (λ h. next_by h s e reply) built.head ∙ (λ i. record (is.leaves i) { table = table_is i })

  accepted : rule_count s1 ≤ s.capacity → (next s e reply ≡ s1) × Fits s e reply
  accepted few = (
    next_is,
    accepted_lines_fit s e reply is.passes (record {
      answer = subst (IsAnswer s e reply) (sym next_is) (is.answers table reply built);
      sound = subst IsSound (sym next_is) (tables_stay_sound s0 r is_rebuilt table change but after (subst (λ n. rule_count s1 ≤ n) (sym is.capacity) few));
    }),
  )

pub edits_are_accepted : EditsAreAccepted
edits_are_accepted s e s0 r is_rebuilt table reply is change but after has few built = accepted s e s0 r is_rebuilt table reply is change but after has built few

pub reroutings_are_edits : ReroutingsAreEdits
reroutings_are_edits s e r is = record {
  passes = is.passes;
  building = rerouting_builds e is.building;
  leaves = is.leaves;
  table = refl;
  tag = refl;
  capacity = refl;
  answers = λ table reply built. answer_built s e reply (record (retagged s r) { table = table }) is.building built;
}

pub reroutings_are_changes : ReroutingsAreChanges
reroutings_are_changes s e r base is =
    let found = rerouted s e is.building is.passes in
    let same : found.routing ≡ r = ap (λ (x : State). x.routing) (sym found.leaves ∙ is.leaves) in
    subst (IsChange s) same (record { tagged = base.tagged; pooled = base.pooled; owners = base.owners; alike = found.alike; enough = found.enough })
