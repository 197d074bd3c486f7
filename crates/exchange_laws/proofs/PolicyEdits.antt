-- Lines of policies that no refusal stops build rules on a steady state with the new policy.
use Rattle.std.proofs.Common.{◌≡◌, ℕ, ◌≤◌, List, [], length, nat_lt, sym, ap, subst, ◌∙◌, refl, arith}
use Rattle.std.specs.Prelude.{Option, None, Some, MatchOption, Ok}
use Rattle.std.specs.Option.{option_map}
use Rattle.events.specs.After.{after, restarted, received_by, running, sent_by, with_known, with_named, with_outbound}
use Rattle.events.specs.Fits.{IsAnswer, IsBuilt, is_receivers, is_senders}
use Rattle.events.proofs.Reached.{declared_pid}
use Rattle.events.specs.Refusals.{if_known, if_short, outbound_refusal, policy_refusal, tags_refusal}
use Rattle.events.specs.State.{State, owner_of}
use Rattle.events.specs.Tags.{Group, free_tags, groups, retagged}
use Rattle.events.specs.declared.Event.TheVariants.{Outbound, Inbound}
use Rattle.events.specs.declared.Reply.{Reply}
use Rattle.exchange_laws.proofs.Bases.{outbound_bases, received_base}
use Rattle.exchange_laws.proofs.LineSteps.{short}
use Rattle.exchange_laws.proofs.Lists.{TableOf}
use Rattle.exchange_laws.proofs.Rerouted.{enough_tags, neither, passes}
use Rattle.exchange_laws.proofs.SameRoutes.{no_groups, routes_stay}
use Rattle.exchange_laws.specs.Steady.{IsSteady}
use Rattle.exchange_laws.specs.Editing.{InboundsAreChanges, InboundsAreEdits, OutboundsAreChanges, OutboundsAreEdits, inbound_base, outbound_base}
use Rattle.exchange_laws.specs.Unchanged.{OwesFew}
use Rattle.net_types.specs.Exports.{Routing, pid_of}
use Rattle.net_types.specs.Isolation.{out_faults}
use Rattle.net_types.specs.Naming.{named_in}
use Rattle.net_types.specs.Policies.{Policy}
use Rattle.net_types.specs.PolicyReading.{policy_of_text}
use Rattle.net_types.specs.declared.address.Pid.{Pid}

-- where no job runs none owes anything
nothing_owed : (f g h : ℕ → ℕ) (o : Option ℕ) → o ≡ None → option_map f (option_map g o) ≡ option_map h o
nothing_owed f g h o none = ap (λ x. option_map f (option_map g x)) none ∙ sym (ap (option_map h) none)

nothing_more : (f : ℕ → ℕ) (o : Option ℕ) → o ≡ None → option_map f o ≡ o
nothing_more f o none = ap (option_map f) none ∙ sym none

-- ---- an outbound policy

module _ (s : State) (name text : List ℕ) (who : Pid) (p : Policy) (idle : s.owed ≡ None) (declared : pid_of s.routing name ≡ Some who) (read : policy_of_text text ≡ Ok p) where
  abbrev named : List Pid
  named = named_in (pid_of s.routing) p

  abbrev r1 : Routing
  r1 = with_named s.routing who named

  abbrev s0 : State
  s0 = outbound_base s who text named

  sends : after s (Outbound name text) ≡ restarted (retagged (with_outbound s who text named) r1)
  sends = ap (λ o. with_known s o (λ w. sent_by s w text (policy_of_text text))) declared ∙ ap (sent_by s who text) read

  owes : (restarted (retagged (with_outbound s who text named) r1)).owed ≡ (retagged s0 r1).owed
  owes = nothing_owed _ _ _ s.owed idle

  leaves : after s (Outbound name text) ≡ retagged s0 r1
  leaves = sends ∙ (λ i. record (retagged s0 r1) { owed = owes i })

  answers : (table : TableOf) (reply : Reply) → IsBuilt s0 (record (retagged s0 r1) { table = table }) (is_senders s who) reply
      → IsAnswer s (Outbound name text) reply (record (retagged s0 r1) { table = table })
  answers table reply built =
      let s1 : State = record (retagged s0 r1) { table = table } in
      subst (λ o. MatchOption o ⊥ (λ w. IsBuilt s s1 (is_senders s1 w) reply)) (sym declared)
      (record { head = built.head; tags = built.tags; drops = built.drops; adds = built.adds; adverts = built.adverts; asks = built.asks; frames = built.frames })

pub outbounds_are_edits : OutboundsAreEdits
outbounds_are_edits s name text who p steady declared read none = record {
  passes = none;
  building = refl;
  leaves = leaves s name text who p steady.idle declared read;
  table = refl;
  tag = refl;
  capacity = refl;
  answers = answers s name text who p steady.idle declared read;
}

-- where no refusal stops it there are enough tags
pub outbounds_are_changes : OutboundsAreChanges
outbounds_are_changes s name text who p steady declared read none =
    let base = outbound_bases s who text p steady (declared_pid s.routing name who declared) read in
    let r1 : Routing = with_named s.routing who (named_in (pid_of s.routing) p) in
    let first : if_short text (outbound_refusal s who text (policy_of_text text)) ≡ None =
    sym (ap (λ o. if_known o (λ w. if_short text (outbound_refusal s w text (policy_of_text text)))) declared) ∙ (passes s (Outbound name text) none).1 in
    let second : outbound_refusal s who text (Ok p) ≡ None = ap (outbound_refusal s who text) (sym read) ∙ short (nat_lt 8192 (length text)) (outbound_refusal s who text (policy_of_text text)) first in
    let before : State = with_outbound s who text (named_in (pid_of s.routing) p) in record {
      tagged = base.tagged;
      pooled = base.pooled;
      owners = base.owners;
      alike = record { participants = refl; ports = refl };
      enough = enough_tags before r1 (neither (policy_refusal (out_faults (pid_of s.routing) (owner_of s) who p) p) (tags_refusal before r1) second).1;
    }

-- ---- an inbound policy

module _ (s : State) (name text : List ℕ) (who : Pid) (p : Policy) (steady : IsSteady s) (declared : pid_of s.routing name ≡ Some who) (read : policy_of_text text ≡ Ok p) where
  abbrev received : State
  received = inbound_base s who text

  -- the routes are the same, and so are the tags and the signatures
  stays : retagged received s.routing ≡ running received
  stays =
      let base = received_base s steady who text p read in
      routes_stay received base.tagged base.pooled base.kept (subst OwesFew (sym steady.idle) tt)

  receives : after s (Inbound name text) ≡ restarted (running received)
  receives = ap (λ o. with_known s o (λ w. received_by s w text (policy_of_text text))) declared ∙ ap (received_by s who text) read

  owes_nothing : (restarted (running received)).owed ≡ s.owed
  owes_nothing = nothing_more _ s.owed steady.idle

  received_leaves : after s (Inbound name text) ≡ retagged received s.routing
  received_leaves = receives ∙ (λ i. record (running received) { owed = owes_nothing i }) ∙ sym stays

  received_answers : (table : TableOf) (reply : Reply) → IsBuilt received (record (retagged received s.routing) { table = table }) (is_receivers s who) reply
      → IsAnswer s (Inbound name text) reply (record (retagged received s.routing) { table = table })
  received_answers table reply built =
      let s1 : State = record (retagged received s.routing) { table = table } in
      let same : is_receivers s who ≡ is_receivers s1 who = sym (λ i. is_receivers (record (stays i) { table = table }) who) in
      let now : IsBuilt received s1 (is_receivers s1 who) reply = subst (λ test. IsBuilt received s1 test reply) same built in
      subst (λ o. MatchOption o ⊥ (λ w. IsBuilt s s1 (is_receivers s1 w) reply)) (sym declared)
      (record { head = now.head; tags = now.tags; drops = now.drops; adds = now.adds; adverts = now.adverts; asks = now.asks; frames = now.frames })

pub inbounds_are_edits : InboundsAreEdits
inbounds_are_edits s name text who p steady declared read none = record {
  passes = none;
  building = refl;
  leaves = received_leaves s name text who p steady declared read;
  table = refl;
  tag = refl;
  capacity = refl;
  answers = received_answers s name text who p steady declared read;
}

pub inbounds_are_changes : InboundsAreChanges
inbounds_are_changes s who text p steady read =
    let base = received_base s steady who text p read in
    let none : groups (inbound_base s who text) s.routing ≡ [] = no_groups (inbound_base s who text) base.tagged in record {
      tagged = base.tagged;
      pooled = base.pooled;
      owners = base.owners;
      alike = record { participants = refl; ports = refl };
      enough = subst (λ (gs : List Group). length gs ≤ length (free_tags (inbound_base s who text))) (sym none) (omega arith);
    }
