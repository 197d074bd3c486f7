-- What holds of every state that a legal run reaches.
use Rattle.std.proofs.Common.{◌≡◌, ℕ, zero, suc, ◌+◌, ◌<◌, Bool, true, false, cond, nat_eq, List, [], ◌∷◌, ◌++◌, length, map, sym, ap, subst, ◌∙◌, refl, arith, sum_by, inl, inr}
use Rattle.std.specs.Prelude.{◌&&◌, ◌-◌, nat_lt, take, Option, Some, None, Result, Ok, Err, is_some, slice_get, slice_set, find}
use Rattle.std.specs.FinMap.{empty, get-empty}
use Rattle.std.specs.List.{position_from}
use Rattle.std.specs.Option.{option_map, option_map_or}
use Rattle.std.proofs.lemmas.List.{length-append}
use Rattle.events.specs.After.{next, next_by, after, accepted, bound_read, merged, received_by, ruled, running, sent_by, settled, taken, updated, with_known, with_port, with_told, without_from, worked}
use Rattle.events.specs.Fits.{FitsBy, Passes, is_building}
use Rattle.events.specs.Legal.{Legal, LegalFrom, state_after, state_from}
use Rattle.events.specs.Pending.{pending, with_all_news}
use Rattle.events.specs.Refusals.{refusal}
use Rattle.events.specs.Sound.{IsSound, rule_count}
use Rattle.events.specs.State.{State, first, port_of, present, told_to}
use Rattle.events.specs.Resolving.{port_place, resolved_at, unresolved, with_answer, with_resolved, is_pool_request}
use Rattle.events.specs.Tags.{retagged}
use Rattle.events.specs.declared.Event.{Event}
use Rattle.events.specs.declared.Event.TheVariants.{Bad, Exchange, Participant as DeclaresParticipant, Port as DeclaresPort, Update, Down, Export, Outbound, Inbound, Take, Drain, Arp, Resolve, Packet, Frame, Recompile, Work, Table}
use Rattle.events.specs.declared.Head.{Head}
use Rattle.events.specs.declared.Head.TheVariants.{Fine, Working, Finished, Unrouted, Unresolved, Silent, Refused}
use Rattle.events.specs.declared.Refusal.{Refusal}
use Rattle.events.specs.declared.Reply.{Reply}
use Rattle.grammar.specs.TextReading.{Fault as Misread}
use Rattle.net_types.proofs.FindLemmas.{not_there}
use Rattle.net_types.proofs.ValueLemmas.{no_entries}
use Rattle.net_types.specs.ExportReading.{rules_of_text}
use Rattle.net_types.specs.Policies.{Policy}
use Rattle.net_types.specs.PolicyReading.{policy_of_text}
use Rattle.net_types.specs.Exports.{pid_of, Routing}
use Rattle.net_types.specs.declared.export.ExportRule.{ExportRule}
use Rattle.net_types.specs.Arp.{asked_ip, asker_mac}
use Rattle.net_types.specs.Keys.{ip_cmp, prefix_cmp, pair_cmp}
use Rattle.net_types.specs.Maps.{ordered}
use Rattle.net_types.specs.UpdateReading.{decoded}
use Rattle.net_types.specs.declared.address.Ip.{Ip}
use Rattle.net_types.specs.declared.update.Fault.{Fault}
use Rattle.net_types.specs.declared.update.Update.{Update as Message}
use Rattle.net_types.specs.Octets.{same_octets}
use Rattle.net_types.specs.declared.address.Pid.{Pid}
use Rattle.net_types.specs.declared.address.PortNo.{PortNo}
use Rattle.net_types.specs.declared.address.Tag.{Tag}
use Rattle.net_types.specs.declared.route.Participant.{Participant}
use Rattle.net_types.specs.declared.route.PortInfo.{PortInfo}
use Rattle.net_types.specs.declared.rule.Pair.{Pair}
use Rattle.net_types.specs.declared.rule.Rule.{Rule}
use Rattle.std.proofs.lemmas.Option.{same_Some}

-- ---- the state before the first line

pub first_sound : IsSound first
first_sound = record {
  pairs = λ pair. ap is_some (get-empty {X = List Rule} pair_cmp pair);
  right = (record { named = pid_of first.routing; outbound = []; inbound = [] }, record { names = refl; outbound = tt; inbound = tt }, λ pair rules e. absurd (not_there _ rules (get-empty pair_cmp pair) e));
  few = (let none : rule_count first ≡ 0 = ap (λ (es : List (Pair × List Rule)). sum_by (λ (rules : List Rule). length rules) (map (λ e. e.1) es)) (no_entries Pair (List Rule) pair_cmp) in omega arith);
  tagged = λ p. ap is_some (get-empty {X = Tag} prefix_cmp p);
  kept = λ p t e. absurd (not_there _ t (get-empty prefix_cmp p) e);
}

-- ---- one line

-- a reply that fits is a refusal, which changes nothing, or accepts the line
passed_sound : (s : State) (e : Event) (r : Reply) (b : Bool) → IsSound s → Passes b s e r → IsSound (next s e r)
passed_sound s e r false sound is = is.sound
passed_sound s e r true sound is = elim is [
  | inl accepted ↦ accepted.sound
  | inr full ↦ subst (λ x. IsSound (next s e x)) (sym full.head) sound
]

pub step_sound : (s : State) (e : Event) (r : Reply) (o : Option Refusal) → IsSound s → FitsBy o s e r → IsSound (next s e r)
step_sound s e r (Some why) sound is = subst (λ x. IsSound (next s e x)) (sym is) sound
step_sound s e r None sound fits = passed_sound s e r (is_building e) sound fits

from_sound : (s : State) (es : List Event) (rs : List Reply) → IsSound s → LegalFrom s es rs → IsSound (state_from s es rs)
from_sound s [] rs sound legal = sound
from_sound s (e ∷ es) [] sound legal = sound
from_sound s (e ∷ es) (r ∷ rs) sound legal = from_sound (next s e r) es rs (step_sound s e r (refusal s e) sound legal.0) legal.1

pub runs_sound : (es : List Event) (rs : List Reply) → Legal es rs → IsSound (state_after es rs)
runs_sound [] [] legal = first_sound
runs_sound (e ∷ es) (r ∷ rs) legal = from_sound first (e ∷ es) (r ∷ rs) first_sound legal
runs_sound [] (r ∷ rs) legal = first_sound
runs_sound (e ∷ es) [] legal = first_sound

-- ---- what is declared

-- each port has a declared owner, and for each participant it is kept what it was told
pub record IsDeclared (s : State) : Type 0 where
  pub owners : (k : ℕ) (q : PortInfo) → slice_get s.routing.ports k ≡ Some q → q.owner.0 < length s.routing.participants
  pub told : length s.told ≡ length s.routing.participants

found_case : (b : Bool) (n k length_of_rest : ℕ) (o : Option ℕ) → (o ≡ Some k → k < n + 1 + length_of_rest) → cond b (Some n) o ≡ Some k → k < n + suc length_of_rest
found_case true n k l o rest e = let same : n ≡ k = same_Some n k e in omega arith
found_case false n k l o rest e = let below : k < n + 1 + l = rest e in omega arith

-- a place that is found is in the list
found_within : (test : Participant → Bool) (n : ℕ) (ms : List Participant) (k : ℕ) → position_from test n ms ≡ Some k → k < n + length ms
found_within test n [] k e = cc
found_within test n (m ∷ ms) k e = found_case (test m) n k (length ms) (position_from test (n + 1) ms) (found_within test (n + 1) ms k) e

pid_within : (o : Option ℕ) (n : ℕ) (who : Pid) → ((k : ℕ) → o ≡ Some k → k < n) → option_map (λ k. let w : Pid = record { 0 = k } in w) o ≡ Some who → who.0 < n
pid_within None n who within e = cc
pid_within (Some k) n who within e = let same : k ≡ who.0 = ap (λ (w : Pid). w.0) (same_Some (record { 0 = k }) who e) in subst (λ x. x < n) same (within k refl)

pub declared_pid : (r : Routing) (name : List ℕ) (who : Pid) → pid_of r name ≡ Some who → who.0 < length r.participants
declared_pid r name who e =
    pid_within (position_from (λ (m : Participant). same_octets m.name name) 0 r.participants) (length r.participants) who (λ k is. let below : k < 0 + length r.participants = found_within (λ (m : Participant). same_octets m.name name) 0 r.participants k is in omega arith) e

get_append : (qs : List PortInfo) (q : PortInfo) (k : ℕ) (o : PortInfo) (P : PortInfo → Type 0) → ((j : ℕ) (x : PortInfo) → slice_get qs j ≡ Some x → P x) → P q → slice_get (qs ++ q ∷ []) k ≡ Some o → P o
get_append [] q zero o P all one e = subst P (same_Some q o e) one
get_append [] q (suc k) o P all one e = cc
get_append (x ∷ qs) q zero o P all one e = subst P (same_Some x o e) (all 0 x refl)
get_append (x ∷ qs) q (suc k) o P all one e = get_append qs q k o P (λ j y is. all (suc j) y is) one e

pub set_length : {A : Type 0} (xs : List A) (k : ℕ) (x : A) → length (slice_set xs k x) ≡ length xs
set_length [] k x = refl
set_length (y ∷ xs) zero x = refl
set_length (y ∷ xs) (suc k) x = ap suc (set_length xs k x)

-- the declarations after a line whose participant is known
known_declared : {X : Type 0} (s : State) (o : Option X) (f : X → State) → IsDeclared s → ((x : X) → o ≡ Some x → IsDeclared (f x)) → IsDeclared (with_known s o f)
known_declared s None f is some = is
known_declared s (Some x) f is some = some x refl

-- an update changes the routes, and not what is declared
updated_declared : (s : State) (who : Pid) (read : Result Message Fault) → IsDeclared s → IsDeclared (updated s who read)
updated_declared s who (Ok u) is = record { owners = is.owners; told = is.told }
updated_declared s who (Err fault) is = is

-- and so do export rules
ruled_declared : (s : State) (who : Pid) (rules : Option (List ExportRule)) → IsDeclared s → IsDeclared (ruled s who rules)
ruled_declared s who (Some rules) is = record { owners = is.owners; told = is.told }
ruled_declared s who None is = is

-- and so does an outbound policy
received_declared : (s : State) (who : Pid) (text : List ℕ) (read : Result Policy Misread) → IsDeclared s → IsDeclared (received_by s who text read)
received_declared s who text (Err fault) is = is
received_declared s who text (Ok p) is = record { owners = is.owners; told = is.told }

sent_declared : (s : State) (who : Pid) (text : List ℕ) (read : Result Policy Misread) → IsDeclared s → IsDeclared (sent_by s who text read)
sent_declared s who text (Ok p) is = record { owners = is.owners; told = is.told }
sent_declared s who text (Err fault) is = is

-- a job declares nothing
worked_declared : (s : State) (units owed : ℕ) (b : Bool) → IsDeclared s → IsDeclared (cond b (running (record s { owed = Some (owed - units) })) (merged s))
worked_declared s units owed true is = record { owners = is.owners; told = is.told }
worked_declared s units owed false is = record { owners = is.owners; told = is.told }

-- what routers resolve declares nothing
resolved_declared : (s : State) (n : PortNo) (ips : List Ip) → IsDeclared s → IsDeclared (with_resolved s n ips)
resolved_declared s n ips is = at (port_place s n)
  where
    at : (o : Option ℕ) → IsDeclared (option_map_or (λ place. let x : State = record s { resolved = slice_set s.resolved place (ordered ip_cmp (resolved_at s n ++ ips)) } in x) o s)
    at None = is
    at (Some place) = record { owners = is.owners; told = is.told }

answer_declared : (s : State) (q : PortInfo) (frame : List ℕ) → IsDeclared s → IsDeclared (with_answer s q frame)
answer_declared s q frame is = by (is_pool_request s frame && same_octets (asker_mac frame).0 q.mac.0)
  where
    by : (b : Bool) → IsDeclared (cond b (with_resolved s q.number (asked_ip frame ∷ [])) s)
    by true = resolved_declared s q.number (asked_ip frame ∷ []) is
    by false = is

running_declared : (s : State) → IsDeclared s → IsDeclared (running s)
running_declared s is = record { owners = is.owners; told = is.told }

after_declared : (s : State) (e : Event) → IsDeclared s → IsDeclared (after s e)
after_declared s Bad is = is
after_declared s (Exchange base size capacity) is = record { owners = is.owners; told = is.told }
after_declared s (DeclaresParticipant name asn id) is =
    let m : Participant = record { name = name; asn = asn; id = id } in
    let more : length (s.routing.participants ++ m ∷ []) ≡ length s.routing.participants + 1 = length-append s.routing.participants (m ∷ []) in
    let more_told : length (s.told ++ empty ∷ []) ≡ length s.told + 1 = length-append s.told (empty ∷ []) in
    let told : length s.told ≡ length s.routing.participants = is.told in record {
      owners = λ k q e. let below : q.owner.0 < length s.routing.participants = is.owners k q e in omega arith;
      told = omega arith;
    }
after_declared s (DeclaresPort name number ip mac) is =
    known_declared s (pid_of s.routing name) (λ who. with_port s (record { owner = who; number = number; ip = ip; mac = mac })) is (λ who e. record {
      owners = λ k q. get_append s.routing.ports (record { owner = who; number = number; ip = ip; mac = mac }) k q (λ o. o.owner.0 < length s.routing.participants) is.owners (declared_pid s.routing name who e);
      told = is.told;
    })
after_declared s (Update name bytes) is =
    known_declared s (pid_of s.routing name) (λ who. updated s who (decoded bytes)) is (λ who e. updated_declared s who (decoded bytes) is)
after_declared s (Down name) is =
    known_declared s (pid_of s.routing name) (λ who. retagged s (without_from s.routing who)) is (λ who e. record { owners = is.owners; told = is.told })
after_declared s (Export name text) is =
    known_declared s (pid_of s.routing name) (λ who. ruled s who (bound_read s.routing (rules_of_text text))) is (λ who e. ruled_declared s who (bound_read s.routing (rules_of_text text)) is)
after_declared s (Outbound name text) is =
    known_declared s (pid_of s.routing name) (λ who. sent_by s who text (policy_of_text text)) is (λ who e. sent_declared s who text (policy_of_text text) is)
after_declared s (Inbound name text) is =
    known_declared s (pid_of s.routing name) (λ who. received_by s who text (policy_of_text text)) is (λ who e. received_declared s who text (policy_of_text text) is)
after_declared s (Take name count) is =
    known_declared s (pid_of s.routing name) (λ who. settled (running (taken s who (take count (pending s who))))) is (λ who e. record {
      owners = is.owners;
      told = set_length s.told who.0 (with_all_news (present s who) (told_to s who) (take count (pending s who))) ∙ is.told;
    })
after_declared s (Drain name) is =
    known_declared s (pid_of s.routing name) (λ who. settled (running (with_told s who (present s who)))) is (λ who e. record {
      owners = is.owners;
      told = set_length s.told who.0 (present s who) ∙ is.told;
    })
after_declared s (Arp port bytes) is =
    known_declared s (port_of s port) (λ q. running (with_answer s q bytes)) is (λ q e. running_declared (with_answer s q bytes) (answer_declared s q bytes is))
after_declared s (Resolve port) is =
    known_declared s (port_of s port) (λ q. running (with_resolved s port (unresolved s q))) is (λ q e. running_declared (with_resolved s port (unresolved s q)) (resolved_declared s port (unresolved s q) is))
after_declared s (Packet port bytes) is = record { owners = is.owners; told = is.told }
after_declared s (Frame port bytes) is = record { owners = is.owners; told = is.told }
after_declared s Recompile is = record { owners = is.owners; told = is.told }
after_declared s (Work units) is = known_declared s s.owed (worked s units) is (λ owed e. worked_declared s units owed (nat_lt units owed) is)
after_declared s Table is = record { owners = is.owners; told = is.told }

accepted_declared : (s : State) (e : Event) (r : Reply) → IsDeclared s → IsDeclared (accepted s e r)
accepted_declared s e r is = let later : IsDeclared (after s e) = after_declared s e is in record { owners = later.owners; told = later.told }

pub next_declared : (s : State) (e : Event) (r : Reply) (h : Head) → IsDeclared s → IsDeclared (next_by h s e r)
next_declared s e r (Refused why) is = is
next_declared s e r Fine is = accepted_declared s e r is
next_declared s e r (Working units) is = accepted_declared s e r is
next_declared s e r Finished is = accepted_declared s e r is
next_declared s e r Unrouted is = accepted_declared s e r is
next_declared s e r (Unresolved ip) is = accepted_declared s e r is
next_declared s e r Silent is = accepted_declared s e r is

from_declared : (s : State) (es : List Event) (rs : List Reply) → IsDeclared s → IsDeclared (state_from s es rs)
from_declared s [] rs is = is
from_declared s (e ∷ es) [] is = is
from_declared s (e ∷ es) (r ∷ rs) is = from_declared (next s e r) es rs (next_declared s e r r.head is)

pub runs_declared : (es : List Event) (rs : List Reply) → IsDeclared (state_after es rs)
runs_declared es rs = from_declared first es rs (record { owners = λ k q e. absurd (not_there _ q (no_place k) e); told = refl })
  where
    no_place : (k : ℕ) → let none : List PortInfo = [] in slice_get none k ≡ None
    no_place zero = refl
    no_place (suc k) = refl

-- the port of a number is declared by a participant
port_declared : (qs : List PortInfo) (n bound : ℕ) (q : PortInfo) → ((k : ℕ) (o : PortInfo) → slice_get qs k ≡ Some o → o.owner.0 < bound) → find (λ (o : PortInfo). nat_eq o.number.0 n) qs ≡ Some q → q.owner.0 < bound
port_declared [] n bound q all e = cc
port_declared (x ∷ qs) n bound q all e = either_port (nat_eq x.number.0 n) (all 0 x refl) (port_declared qs n bound q (λ k o is. all (suc k) o is)) e
  where
    either_port : (b : Bool) → x.owner.0 < bound → (find (λ (o : PortInfo). nat_eq o.number.0 n) qs ≡ Some q → q.owner.0 < bound) → cond b (Some x) (find (λ (o : PortInfo). nat_eq o.number.0 n) qs) ≡ Some q → q.owner.0 < bound
    either_port true here later e = subst (λ (o : PortInfo). o.owner.0 < bound) (same_Some x q e) here
    either_port false here later e = later e

pub owner_declared : (s : State) (n : PortNo) (q : PortInfo) → IsDeclared s → port_of s n ≡ Some q → q.owner.0 < length s.routing.participants
owner_declared s n q is e = port_declared s.routing.ports n.0 (length s.routing.participants) q is.owners e
