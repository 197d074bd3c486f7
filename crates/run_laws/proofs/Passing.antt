-- The texts of the policies are read as policies that passed isolation, in every state that a legal run reaches.
use Rattle.std.proofs.Common.{◌≡◌, ℕ, zero, suc, Bool, true, false, cond, nat_lt, List, [], ◌∷◌, ◌++◌, length, sym, ap, subst, ◌∙◌, refl, inl, inr}
use Rattle.std.specs.Prelude.{◌+◌, take, Option, Some, None, Result, Ok, Err, codes, slice_set, ◌-◌}
use Rattle.std.specs.FinMap.{FinMap}
use Rattle.std.proofs.lemmas.List.{length-append}
use Rattle.events.proofs.DropText.{drop_is_read}
use Rattle.events.proofs.Reached.{set_length}
use Rattle.events.specs.After.{after, bound_read, merged, received_by, ruled, running, sent_by, settled, taken, updated, with_named, with_outbound, with_participant, with_port, with_told, without_from, worked}
use Rattle.events.specs.Legal.{state_after}
use Rattle.events.specs.Pending.{pending}
use Rattle.events.specs.Refusals.{if_short, inbound_refusal, is_placed, outbound_refusal, policy_refusal, refusal, tags_refusal}
use Rattle.events.specs.Resolving.{unresolved, with_answer, with_resolved}
use Rattle.events.specs.State.{State, AreRead, IsRead, first, owner_of, port_of, present}
use Rattle.events.specs.Tags.{retagged}
use Rattle.events.specs.declared.Event.{Event}
use Rattle.events.specs.declared.Event.TheVariants.{Bad, Exchange, Participant as DeclaresParticipant, Port as DeclaresPort, Update, Down, Export, Outbound, Inbound, Take, Drain, Arp, Resolve, Packet, Frame, Recompile, Work, Table}
use Rattle.events.specs.declared.Phase.{Phase}
use Rattle.events.specs.declared.Phase.TheVariants.{Start, Declaring, Running}
use Rattle.events.specs.declared.Refusal.TheVariants.{TextLong}
use Rattle.exchange_laws.proofs.LineSteps.{at_start, declares_participant, no_fault}
use Rattle.exchange_laws.proofs.PassedSteps.{Said, at, not_declaring, said, same_pid, set_both, set_read}
use Rattle.exchange_laws.proofs.Rerouted.{neither, passes}
use Rattle.grammar.specs.TextReading.{Fault as Misread}
use Rattle.net_types.specs.Answers.{policy_of}
use Rattle.net_types.specs.ExportReading.{rules_of_text}
use Rattle.net_types.specs.Exports.{named_by, pid_of}
use Rattle.net_types.specs.Isolation.{in_faults, out_faults}
use Rattle.net_types.specs.Keys.{pair_cmp}
use Rattle.net_types.specs.Naming.{named_in}
use Rattle.net_types.specs.Policies.{Policy, Drop}
use Rattle.net_types.specs.PolicyReading.{policy_of_text}
use Rattle.net_types.specs.UpdateReading.{decoded}
use Rattle.net_types.specs.declared.address.Ip.{Ip}
use Rattle.net_types.specs.declared.address.Pid.{Pid}
use Rattle.net_types.specs.declared.export.ExportRule.{ExportRule}
use Rattle.net_types.specs.declared.route.Participant.{Participant}
use Rattle.net_types.specs.declared.route.PortInfo.{PortInfo}
use Rattle.net_types.specs.declared.update.Fault.{Fault}
use Rattle.net_types.specs.declared.update.Update.{Update as Message}
use Rattle.net_types.specs.declared.rule.Rule.{Rule}
use Rattle.run_laws.proofs.Carried.{not_before, runs_hold}
use Rattle.run_laws.specs.Promises.{PoliciesHavePassed}
use Rattle.run_laws.proofs.Known.{answer_is, free_holds, known_holds, resolved_is}
use Rattle.exchange_laws.proofs.NewStates.{none_in_order}

-- ---- lists

-- one more of what stands for none changes nothing
at_more : {A : Type 0} (xs : List A) (k : ℕ) (none : A) → at (xs ++ none ∷ []) k none ≡ at xs k none
at_more [] zero none = refl
at_more [] (suc k) none = refl
at_more (x ∷ xs) zero none = refl
at_more (x ∷ xs) (suc k) none = at_more xs k none

-- ---- texts

more_read : (texts : List (List ℕ)) (ps : List Policy) (text : List ℕ) (p : Policy) → AreRead texts ps → IsRead text p → AreRead (texts ++ text ∷ []) (ps ++ p ∷ [])
more_read [] [] text p read is = (is, tt)
more_read [] (q ∷ ps) text p read is = absurd read
more_read (t ∷ texts) [] text p read is = absurd read
more_read (t ∷ texts) (q ∷ ps) text p read is = (read.0, more_read texts ps text p read.1 is)

-- ---- states

-- The texts are read as policies that passed isolation, and the routing has whom the outbound ones name. Until the exchange
-- runs all policies drop.
record IsPassing (s : State) : Type 0 where
  outbound : List Policy
  inbound : List Policy
  read_outbound : AreRead s.outbound outbound
  read_inbound : AreRead s.inbound inbound
  passed_outbound : (who : Pid) → out_faults (pid_of s.routing) (owner_of s) who (policy_of outbound who) ≡ []
  passed_inbound : (who : Pid) → in_faults (owner_of s) who (policy_of inbound who) ≡ []
  named : (who : Pid) → named_by s.routing who ≡ named_in (pid_of s.routing) (policy_of outbound who)
  as_many : length s.routing.named ≡ length outbound
  drop_outbound : (s.phase ≡ Running → ⊥) → (who : Pid) → policy_of outbound who ≡ Drop
  drop_inbound : (s.phase ≡ Running → ⊥) → (who : Pid) → policy_of inbound who ≡ Drop

no_policy : (who : Pid) → policy_of [] who ≡ Drop
no_policy who = by who.0
  where
    by : (k : ℕ) → at [] k Drop ≡ Drop
    by zero = refl
    by (suc k) = refl

no_names : (who : Pid) → named_by first.routing who ≡ []
no_names who = by who.0
  where
    by : (k : ℕ) → let none : List (List Pid) = [] in at none k [] ≡ []
    by zero = refl
    by (suc k) = refl

first_passing : IsPassing first
first_passing = record {
  outbound = [];
  inbound = [];
  read_outbound = tt;
  read_inbound = tt;
  passed_outbound = λ who. ap (out_faults (pid_of first.routing) (owner_of first) who) (no_policy who);
  passed_inbound = λ who. ap (in_faults (owner_of first) who) (no_policy who);
  named = λ who. no_names who ∙ sym none_in_order ∙ sym (ap (named_in (pid_of first.routing)) (no_policy who));
  as_many = refl;
  drop_outbound = λ later who. no_policy who;
  drop_inbound = λ later who. no_policy who;
}

-- ---- lines

not_at_start : (phase : Phase) → phase ≡ Start → phase ≡ Running → ⊥
not_at_start phase e f = cc

declares_port : (phase : Phase) (name : List ℕ) (q : PortInfo) → is_placed phase (DeclaresPort name q.number q.ip q.mac) ≡ true → phase ≡ Declaring
declares_port Start name q e = cc
declares_port Declaring name q e = refl
declares_port Running name q e = cc

-- another table changes no policy
retable : (s : State) (table : FinMap pair_cmp (List Rule)) → IsPassing s → IsPassing (record s { table = table })
retable s table is = record {
  outbound = is.outbound;
  inbound = is.inbound;
  read_outbound = is.read_outbound;
  read_inbound = is.read_inbound;
  passed_outbound = is.passed_outbound;
  passed_inbound = is.passed_inbound;
  named = is.named;
  as_many = is.as_many;
  drop_outbound = is.drop_outbound;
  drop_inbound = is.drop_inbound;
}

pool_passing : (s : State) (base : Ip) (size capacity : ℕ) → s.phase ≡ Start → IsPassing s → IsPassing (after s (Exchange base size capacity))
pool_passing s base size capacity start is = record {
  outbound = is.outbound;
  inbound = is.inbound;
  read_outbound = is.read_outbound;
  read_inbound = is.read_inbound;
  passed_outbound = is.passed_outbound;
  passed_inbound = is.passed_inbound;
  named = is.named;
  as_many = is.as_many;
  drop_outbound = λ later. is.drop_outbound (not_at_start s.phase start);
  drop_inbound = λ later. is.drop_inbound (not_at_start s.phase start);
}

-- a further participant's policies drop
participant_passing : (s : State) (m : Participant) → s.phase ≡ Declaring → IsPassing s → IsPassing (with_participant s m)
participant_passing s m declaring is =
    let outbound : List Policy = is.outbound ++ Drop ∷ [] in
    let inbound : List Policy = is.inbound ++ Drop ∷ [] in
    let drops : (who : Pid) → policy_of outbound who ≡ Drop = λ who. at_more is.outbound who.0 Drop ∙ is.drop_outbound (not_declaring s.phase declaring) who in
    let too : (who : Pid) → policy_of inbound who ≡ Drop = λ who. at_more is.inbound who.0 Drop ∙ is.drop_inbound (not_declaring s.phase declaring) who in
    let s1 : State = with_participant s m in record {
      outbound = outbound;
      inbound = inbound;
      read_outbound = more_read s.outbound is.outbound (codes "drop") Drop is.read_outbound drop_is_read;
      read_inbound = more_read s.inbound is.inbound (codes "drop") Drop is.read_inbound drop_is_read;
      passed_outbound = λ who. ap (out_faults (pid_of s1.routing) (owner_of s1) who) (drops who);
      passed_inbound = λ who. ap (in_faults (owner_of s1) who) (too who);
      named = λ who.
          at_more s.routing.named who.0 [] ∙ is.named who
          ∙ ap (named_in (pid_of s.routing)) (is.drop_outbound (not_declaring s.phase declaring) who)
          ∙ sym (ap (named_in (pid_of s1.routing)) (drops who));
      as_many = length-append s.routing.named ([] ∷ []) ∙ ap (λ n. n + 1) is.as_many ∙ sym (length-append is.outbound (Drop ∷ []));
      drop_outbound = λ later. drops;
      drop_inbound = λ later. too;
    }

-- a further port is declared while all policies drop
port_passing : (s : State) (q : PortInfo) → s.phase ≡ Declaring → IsPassing s → IsPassing (with_port s q)
port_passing s q declaring is =
    let drops : (who : Pid) → policy_of is.outbound who ≡ Drop = is.drop_outbound (not_declaring s.phase declaring) in
    let too : (who : Pid) → policy_of is.inbound who ≡ Drop = is.drop_inbound (not_declaring s.phase declaring) in
    let s1 : State = with_port s q in record {
      outbound = is.outbound;
      inbound = is.inbound;
      read_outbound = is.read_outbound;
      read_inbound = is.read_inbound;
      passed_outbound = λ who. ap (out_faults (pid_of s1.routing) (owner_of s1) who) (drops who);
      passed_inbound = λ who. ap (in_faults (owner_of s1) who) (too who);
      named = is.named;
      as_many = is.as_many;
      drop_outbound = λ later. drops;
      drop_inbound = λ later. too;
    }

-- the exchange runs, with the policies and declarations that it had
kept_passing : (s s1 : State) → said s1 ≡ said s → s1.phase ≡ Running → IsPassing s → IsPassing s1
kept_passing s s1 same running is =
    let names : pid_of s1.routing ≡ pid_of s.routing = ap (λ (x : Said). pid_of (record s.routing { participants = x.participants })) same in
    let owners : owner_of s1 ≡ owner_of s = ap (λ (x : Said). owner_of (record s { routing = record s.routing { ports = x.ports } })) same in record {
      outbound = is.outbound;
      inbound = is.inbound;
      read_outbound = subst (λ (x : Said). AreRead x.outbound is.outbound) (sym same) is.read_outbound;
      read_inbound = subst (λ (x : Said). AreRead x.inbound is.inbound) (sym same) is.read_inbound;
      passed_outbound = λ who. ap (λ f. out_faults f (owner_of s1) who (policy_of is.outbound who)) names ∙ ap (λ f. out_faults (pid_of s.routing) f who (policy_of is.outbound who)) owners ∙ is.passed_outbound who;
      passed_inbound = λ who. ap (λ f. in_faults f who (policy_of is.inbound who)) owners ∙ is.passed_inbound who;
      named = λ who. ap (λ (x : Said). at x.named who.0 []) same ∙ is.named who ∙ sym (ap (λ f. named_in f (policy_of is.outbound who)) names);
      as_many = ap (λ (x : Said). length x.named) same ∙ is.as_many;
      drop_outbound = λ later. absurd (later running);
      drop_inbound = λ later. absurd (later running);
    }

updated_passing : (s : State) (who : Pid) (read : Result Message Fault) → IsPassing s → IsPassing (updated s who read)
updated_passing s who (Ok u) is = kept_passing s _ refl refl is
updated_passing s who (Err fault) is = is

ruled_passing : (s : State) (who : Pid) (rules : Option (List ExportRule)) → IsPassing s → IsPassing (ruled s who rules)
ruled_passing s who (Some rules) is = kept_passing s _ refl refl is
ruled_passing s who None is = is

worked_passing : (s : State) (units owed : ℕ) (b : Bool) → IsPassing s → IsPassing (cond b (running (record s { owed = Some (owed - units) })) (merged s))
worked_passing s units owed true is = kept_passing s _ refl refl is
worked_passing s units owed false is = kept_passing s _ refl refl is

-- ---- policies

sent_passing : (s : State) (who : Pid) (text : List ℕ) (o : Result Policy Misread) → policy_of_text text ≡ o → outbound_refusal s who text o ≡ None → IsPassing s → IsPassing (sent_by s who text o)
sent_passing s who text (Err fault) read none is = absurd (cc)
sent_passing s who text (Ok p) read none is =
    let names : List Pid = named_in (pid_of s.routing) p in
    let clear : out_faults (pid_of s.routing) (owner_of s) who p ≡ [] =
    no_fault (out_faults (pid_of s.routing) (owner_of s) who p) p (neither (policy_refusal (out_faults (pid_of s.routing) (owner_of s) who p) p) (tags_refusal (with_outbound s who text names) (with_named s.routing who names)) none).0 in
    let there = λ (w : Pid). set_both is.outbound s.routing.named who.0 w.0 p Drop names [] is.as_many in record {
      outbound = slice_set is.outbound who.0 p;
      inbound = is.inbound;
      read_outbound = set_read s.outbound is.outbound who.0 text p is.read_outbound read;
      read_inbound = is.read_inbound;
      passed_outbound = λ w. elim (there w) [
        | inl stays ↦ ap (out_faults (pid_of s.routing) (owner_of s) w) stays.0 ∙ is.passed_outbound w
        | inr here ↦ ap (out_faults (pid_of s.routing) (owner_of s) w) here.1 ∙ subst (λ (x : Pid). out_faults (pid_of s.routing) (owner_of s) x p ≡ []) (same_pid w who here.0) clear
      ];
      passed_inbound = is.passed_inbound;
      named = λ w. elim (there w) [
        | inl stays ↦ stays.1 ∙ is.named w ∙ sym (ap (named_in (pid_of s.routing)) stays.0)
        | inr here ↦ here.2 ∙ sym (ap (named_in (pid_of s.routing)) here.1)
      ];
      as_many = set_length s.routing.named who.0 names ∙ is.as_many ∙ sym (set_length is.outbound who.0 p);
      drop_outbound = λ later. absurd (later refl);
      drop_inbound = λ later. absurd (later refl);
    }

received_passing : (s : State) (who : Pid) (text : List ℕ) (o : Result Policy Misread) → policy_of_text text ≡ o → inbound_refusal s who o ≡ None → IsPassing s → IsPassing (received_by s who text o)
received_passing s who text (Err fault) read none is = absurd (cc)
received_passing s who text (Ok p) read none is =
    let clear : in_faults (owner_of s) who p ≡ [] = no_fault (in_faults (owner_of s) who p) p none in
    let there = λ (w : Pid). set_both is.inbound is.inbound who.0 w.0 p Drop p Drop refl in record {
      outbound = is.outbound;
      inbound = slice_set is.inbound who.0 p;
      read_outbound = is.read_outbound;
      read_inbound = set_read s.inbound is.inbound who.0 text p is.read_inbound read;
      passed_outbound = is.passed_outbound;
      passed_inbound = λ w. elim (there w) [
        | inl stays ↦ ap (in_faults (owner_of s) w) stays.0 ∙ is.passed_inbound w
        | inr here ↦ ap (in_faults (owner_of s) w) here.1 ∙ subst (λ (x : Pid). in_faults (owner_of s) x p ≡ []) (same_pid w who here.0) clear
      ];
      named = is.named;
      as_many = is.as_many;
      drop_outbound = λ later. absurd (later refl);
      drop_inbound = λ later. absurd (later refl);
    }

-- ---- each line

after_passing : (s : State) (e : Event) → refusal s e ≡ None → IsPassing s → IsPassing (after s e)
after_passing s Bad none is = is
after_passing s (Exchange base size capacity) none is = pool_passing s base size capacity (at_start s.phase base size capacity (passes s (Exchange base size capacity) none).0) is
after_passing s (DeclaresParticipant name asn id) none is =
    participant_passing s (record { name = name; asn = asn; id = id }) (declares_participant s.phase name asn id (passes s (DeclaresParticipant name asn id) none).0) is
after_passing s (DeclaresPort name number ip mac) none is =
    known_holds IsPassing s (pid_of s.routing name) (λ who. with_port s (record { owner = who; number = number; ip = ip; mac = mac })) is (λ who.
    let q : PortInfo = record { owner = who; number = number; ip = ip; mac = mac } in
    port_passing s q (declares_port s.phase name q (passes s (DeclaresPort name number ip mac) none).0) is)
after_passing s (Update name bytes) none is = known_holds IsPassing s (pid_of s.routing name) (λ who. updated s who (decoded bytes)) is (λ who. updated_passing s who (decoded bytes) is)
after_passing s (Down name) none is =
    known_holds IsPassing s (pid_of s.routing name) (λ who. retagged s (without_from s.routing who)) is (λ who.
    kept_passing s _ refl refl is)
after_passing s (Export name text) none is =
    known_holds IsPassing s (pid_of s.routing name) (λ who. ruled s who (bound_read s.routing (rules_of_text text))) is (λ who. ruled_passing s who (bound_read s.routing (rules_of_text text)) is)
after_passing s (Outbound name text) none is =
    free_holds IsPassing s (pid_of s.routing name) (λ who. if_short text (outbound_refusal s who text (policy_of_text text))) (λ who. sent_by s who text (policy_of_text text)) (passes s (Outbound name text) none).1 (λ who short.
    sent_passing s who text (policy_of_text text) refl (not_before (nat_lt 8192 (length text)) TextLong (outbound_refusal s who text (policy_of_text text)) short) is)
after_passing s (Inbound name text) none is =
    free_holds IsPassing s (pid_of s.routing name) (λ who. if_short text (inbound_refusal s who (policy_of_text text))) (λ who. received_by s who text (policy_of_text text)) (passes s (Inbound name text) none).1 (λ who short.
    received_passing s who text (policy_of_text text) refl (not_before (nat_lt 8192 (length text)) TextLong (inbound_refusal s who (policy_of_text text)) short) is)
after_passing s (Take name count) none is =
    known_holds IsPassing s (pid_of s.routing name) (λ who. settled (running (taken s who (take count (pending s who))))) is (λ who.
    kept_passing s _ refl refl is)
after_passing s (Drain name) none is =
    known_holds IsPassing s (pid_of s.routing name) (λ who. settled (running (with_told s who (present s who)))) is (λ who.
    kept_passing s _ refl refl is)
after_passing s (Arp n bytes) none is =
    known_holds IsPassing s (port_of s n) (λ q. running (with_answer s q bytes)) is (λ q.
    subst (λ x. IsPassing (running x)) (sym (answer_is s q bytes)) (kept_passing s _ refl refl is))
after_passing s (Resolve n) none is =
    known_holds IsPassing s (port_of s n) (λ q. running (with_resolved s n (unresolved s q))) is (λ q.
    subst (λ x. IsPassing (running x)) (sym (resolved_is s n (unresolved s q))) (kept_passing s _ refl refl is))
after_passing s (Packet n bytes) none is = kept_passing s _ refl refl is
after_passing s (Frame n bytes) none is = kept_passing s _ refl refl is
after_passing s Recompile none is = kept_passing s _ refl refl is
after_passing s (Work units) none is = known_holds IsPassing s s.owed (worked s units) is (λ owed. worked_passing s units owed (nat_lt units owed) is)
after_passing s Table none is = kept_passing s _ refl refl is

pub policies_have_passed : PoliciesHavePassed
policies_have_passed es rs legal =
    let s : State = state_after es rs in
    let is : IsPassing s = runs_hold IsPassing (record { start = first_passing; tables = retable; lines = after_passing }) es rs legal in (
      record { named = pid_of s.routing; outbound = is.outbound; inbound = is.inbound },
      record { names = refl; outbound = is.read_outbound; inbound = is.read_inbound },
      record { outbound = is.passed_outbound; inbound = is.passed_inbound; named = is.named },
    )
