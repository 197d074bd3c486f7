-- What the state and the line say of a reply: all but the rules, the pairs that go, and how many rules a full table would have.
use Rattle.std.proofs.Common.{◌≡◌, ℕ, ◌-◌, Bool, true, false, nat_lt, List, map, refl, sym, ap, ◌∙◌}
use Rattle.std.specs.Prelude.{Option, Some, None, Result, Ok, Err, take, unwrap_or}
use Rattle.std.specs.FinMap.{get, keys}
use Rattle.grammar.specs.TextReading.{Fault as Misread}
use Rattle.net_types.specs.ExportReading.{rules_of_text}
use Rattle.net_types.specs.Exports.{pid_of}
use Rattle.net_types.specs.Policies.{Policy}
use Rattle.net_types.specs.PolicyReading.{policy_of_text}
use Rattle.net_types.specs.Routes.{longest_of}
use Rattle.net_types.specs.UpdateReading.{decoded}
use Rattle.net_types.specs.declared.address.Pid.{Pid}
use Rattle.net_types.specs.declared.export.ExportRule.{ExportRule}
use Rattle.net_types.specs.declared.prefix.Prefix.{Prefix}
use Rattle.net_types.specs.declared.route.PortInfo.{PortInfo}
use Rattle.net_types.specs.declared.rule.Pair.{Pair}
use Rattle.net_types.specs.declared.update.Fault.{Fault}
use Rattle.net_types.specs.declared.update.Update.{Update as Message}
use Rattle.events.specs.After.{after, all_units, bound_read, next, next_by, received_by, ruled, sent_by, updated, with_known}
use Rattle.events.specs.Fits.{IsAnswer, IsBuilt, IsFinished, IsSent, IsTagged, IsTaken, IsWorked, asks_for, bare, by_table, is_building, is_receivers, is_senders, none_rebuilt, responder_reply, tag_changes}
use Rattle.net_types.specs.Frames.{destination}
use Rattle.events.specs.Pending.{pending}
use Rattle.events.specs.Resolving.{is_resolved, tag_address, unresolved}
use Rattle.events.specs.State.{State, port_of, told_to}
use Rattle.events.specs.declared.Entry.{Entry}
use Rattle.events.specs.declared.Event.{Event}
use Rattle.events.specs.declared.Event.TheVariants.{Bad, Exchange, Participant, Port, Update, Down, Export, Outbound, Inbound, Take, Drain, Arp, Resolve, Packet, Frame, Recompile, Work, Table}
use Rattle.events.specs.declared.Head.TheVariants.{Fine, Finished, Unrouted, Unresolved, Working}
use Rattle.events.specs.declared.Reply.{Reply}
use Rattle.text_laws.proofs.Details.{known, where_known}

-- the replies are the same but for what they drop and add
pub record AreAlike (r q : Reply) : Type 0 where
  pub head : r.head ≡ q.head
  pub tags : r.tags ≡ q.tags
  pub adverts : r.adverts ≡ q.adverts
  pub asks : r.asks ≡ q.asks
  pub frames : r.frames ≡ q.frames

same : (r q : Reply) → r ≡ q → AreAlike r q
same r q is = record { head = ap (λ (x : Reply). x.head) is; tags = ap (λ (x : Reply). x.tags) is; adverts = ap (λ (x : Reply). x.adverts) is; asks = ap (λ (x : Reply). x.asks) is; frames = ap (λ (x : Reply). x.frames) is }

-- both are this reply
these : (r q x : Reply) → r ≡ x → q ≡ x → AreAlike r q
these r q x is are = same r q (is ∙ sym are)

-- ---- tags

fine_tags : (s : State) (e : Event) (r : Reply) → r.head ≡ Fine → (next s e r).tag ≡ (after s e).tag
fine_tags s e r is = ap (λ h. (next_by h s e r).tag) is

finished_tags : (s : State) (e : Event) (r : Reply) → r.head ≡ Finished → (next s e r).tag ≡ (after s e).tag
finished_tags s e r is = ap (λ h. (next_by h s e r).tag) is

module _ (s : State) (e : Event) (r q : Reply) where
  built : (f g : Pair → Bool) → IsBuilt s (next s e r) f r → IsBuilt s (next s e q) g q → AreAlike r q
  built f g one two = record {
    head = one.head ∙ sym two.head;
    tags = one.tags ∙ ap (tag_changes s.tag) (fine_tags s e r one.head ∙ sym (fine_tags s e q two.head)) ∙ sym two.tags;
    adverts = one.adverts ∙ sym two.adverts;
    asks = one.asks ∙ sym two.asks;
    frames = one.frames ∙ sym two.frames;
  }

  finished : IsFinished s (next s e r) r → IsFinished s (next s e q) q → AreAlike r q
  finished one two = record {
    head = one.head ∙ sym two.head;
    tags = one.tags ∙ ap (tag_changes s.tag) (finished_tags s e r one.head ∙ sym (finished_tags s e q two.head)) ∙ sym two.tags;
    adverts = one.adverts ∙ sym two.adverts;
    asks = one.asks ∙ sym two.asks;
    frames = one.frames ∙ sym two.frames;
  }

  taken : (who : Pid) (ps : List Prefix) → IsTaken s (next s e r) who ps r → IsTaken s (next s e q) who ps q → AreAlike r q
  taken who ps one two = record {
    head = one.head ∙ sym two.head;
    tags = one.tags ∙ sym two.tags;
    adverts = one.adverts ∙ sym two.adverts;
    asks = one.asks ∙ sym two.asks;
    frames = one.frames ∙ sym two.frames;
  }

  worked : (b : Bool) (units owed : ℕ) → IsWorked b s (next s e r) units owed r → IsWorked b s (next s e q) units owed q → AreAlike r q
  worked true units owed one two = these r q (bare (Working (owed - units))) one two
  worked false units owed one two = finished one two

tagged : (b : Bool) (s : State) (p : PortInfo) (bytes : List ℕ) (x : Prefix) (told : Entry) (r q : Reply) → IsTagged b s p bytes x told r → IsTagged b s p bytes x told q → AreAlike r q
tagged true s p bytes x told r q one two = these r q _ one.by_table two.by_table
tagged false s p bytes x told r q one two = these r q (bare (Unresolved (tag_address s told.tag))) one two

sent : (s : State) (p : PortInfo) (bytes : List ℕ) (r q : Reply) (o : Option Prefix) → IsSent s p bytes r o → IsSent s p bytes q o → AreAlike r q
sent s p bytes r q None one two = these r q (bare Unrouted) one two
sent s p bytes r q (Some x) one two =
    where_known (get (told_to s p.owner) x) (λ told. IsTagged (is_resolved s p.number (tag_address s told.tag)) s p bytes x told r) (λ told. IsTagged (is_resolved s p.number (tag_address s told.tag)) s p bytes x told q)
    (λ told. tagged (is_resolved s p.number (tag_address s told.tag)) s p bytes x told r q) one two

-- the units are those of the state before
started : (s : State) (r : Reply) → r ≡ bare (Working (unwrap_or (next s Recompile r).owed 0)) → r ≡ bare (Working (all_units s))
started s r is = is ∙ ap (λ n. bare (Working n)) (ap (λ x. unwrap_or (next s Recompile x).owed 0) is)

pub determined : (s : State) (e : Event) (r q : Reply) → IsAnswer s e r (next s e r) → IsAnswer s e q (next s e q) → AreAlike r q
determined s Bad r q one two = absurd one
determined s (Exchange base size capacity) r q one two = these r q (bare Fine) one two
determined s (Participant name asn id) r q one two = these r q (bare Fine) one two
determined s (Port name number ip mac) r q one two = these r q (bare Fine) one two
determined s (Update name bytes) r q one two = built s (Update name bytes) r q none_rebuilt none_rebuilt one two
determined s (Down name) r q one two = built s (Down name) r q none_rebuilt none_rebuilt one two
determined s (Export name text) r q one two = built s (Export name text) r q none_rebuilt none_rebuilt one two
determined s (Outbound name text) r q one two =
    let e : Event = Outbound name text in
    where_known (pid_of s.routing name) (λ who. IsBuilt s (next s e r) (is_senders (next s e r) who) r) (λ who. IsBuilt s (next s e q) (is_senders (next s e q) who) q)
    (λ who. built s e r q (is_senders (next s e r) who) (is_senders (next s e q) who)) one two
determined s (Inbound name text) r q one two =
    let e : Event = Inbound name text in
    where_known (pid_of s.routing name) (λ who. IsBuilt s (next s e r) (is_receivers (next s e r) who) r) (λ who. IsBuilt s (next s e q) (is_receivers (next s e q) who) q)
    (λ who. built s e r q (is_receivers (next s e r) who) (is_receivers (next s e q) who)) one two
determined s (Take name count) r q one two =
    let e : Event = Take name count in
    where_known (pid_of s.routing name) (λ who. IsTaken s (next s e r) who (take count (pending s who)) r) (λ who. IsTaken s (next s e q) who (take count (pending s who)) q)
    (λ who. taken s e r q who (take count (pending s who))) one two
determined s (Drain name) r q one two =
    let e : Event = Drain name in
    where_known (pid_of s.routing name) (λ who. IsTaken s (next s e r) who (pending s who) r) (λ who. IsTaken s (next s e q) who (pending s who) q) (λ who. taken s e r q who (pending s who)) one two
determined s (Arp n bytes) r q one two = these r q (responder_reply s bytes) one two
determined s (Resolve n) r q one two =
    where_known (port_of s n) (λ p. r ≡ record (bare Fine) { asks = map (asks_for s p) (unresolved s p) }) (λ p. q ≡ record (bare Fine) { asks = map (asks_for s p) (unresolved s p) }) (λ p. these r q _) one two
determined s (Frame n bytes) r q one two =
    where_known (port_of s n) (λ p. r ≡ record (bare Fine) { frames = by_table s p bytes }) (λ p. q ≡ record (bare Fine) { frames = by_table s p bytes }) (λ p. these r q _) one two
determined s Table r q one two = these r q _ one two
determined s Recompile r q one two = these r q (bare (Working (all_units s))) (started s r one) (started s q two)
determined s (Work units) r q one two =
    let e : Event = Work units in
    where_known s.owed (λ owed. IsWorked (nat_lt units owed) s (next s e r) units owed r) (λ owed. IsWorked (nat_lt units owed) s (next s e q) units owed q) (λ owed. worked s e r q (nat_lt units owed) units owed) one two
determined s (Packet n bytes) r q one two =
    where_known (port_of s n) (λ p. IsSent s p bytes r (longest_of (keys (told_to s p.owner)) (destination bytes))) (λ p. IsSent s p bytes q (longest_of (keys (told_to s p.owner)) (destination bytes)))
    (λ p. sent s p bytes r q (longest_of (keys (told_to s p.owner)) (destination bytes))) one two

-- ---- lines that build rules

-- an accepted one is answered `ok`
pub building_fine : (s s1 : State) (e : Event) (r : Reply) → is_building e ≡ true → IsAnswer s e r s1 → r.head ≡ Fine
building_fine s s1 (Update name bytes) r builds is = is.head
building_fine s s1 (Down name) r builds is = is.head
building_fine s s1 (Export name text) r builds is = is.head
building_fine s s1 (Outbound name text) r builds is = known (pid_of s.routing name) (λ who. IsBuilt s s1 (is_senders s1 who) r) (λ who x. x.head) is
building_fine s s1 (Inbound name text) r builds is = known (pid_of s.routing name) (λ who. IsBuilt s s1 (is_receivers s1 who) r) (λ who x. x.head) is
building_fine s s1 e r builds is = absurd (cc)

-- the ports and the pool are those of the state before
pub record KeepsPairs (s t : State) : Type 0 where
  pub ports : t.routing.ports ≡ s.routing.ports
  pub size : t.size ≡ s.size

itself : (s : State) → KeepsPairs s s
itself s = record { ports = refl; size = refl }

known_keeps : {X : Type 0} (s : State) (o : Option X) (f : X → State) → ((x : X) → KeepsPairs s (f x)) → KeepsPairs s (with_known s o f)
known_keeps s None f keeps = itself s
known_keeps s (Some x) f keeps = keeps x

updated_keeps : (s : State) (who : Pid) (m : Result Message Fault) → KeepsPairs s (updated s who m)
updated_keeps s who (Ok u) = record { ports = refl; size = refl }
updated_keeps s who (Err fault) = itself s

ruled_keeps : (s : State) (who : Pid) (o : Option (List ExportRule)) → KeepsPairs s (ruled s who o)
ruled_keeps s who (Some rules) = record { ports = refl; size = refl }
ruled_keeps s who None = itself s

sent_keeps : (s : State) (who : Pid) (text : List ℕ) (p : Result Policy Misread) → KeepsPairs s (sent_by s who text p)
sent_keeps s who text (Ok p) = record { ports = refl; size = refl }
sent_keeps s who text (Err fault) = itself s

received_keeps : (s : State) (who : Pid) (text : List ℕ) (p : Result Policy Misread) → KeepsPairs s (received_by s who text p)
received_keeps s who text (Ok p) = record { ports = refl; size = refl }
received_keeps s who text (Err fault) = itself s

pub building_keeps : (s : State) (e : Event) → is_building e ≡ true → KeepsPairs s (after s e)
building_keeps s (Update name bytes) builds = known_keeps s (pid_of s.routing name) _ (λ who. updated_keeps s who (decoded bytes))
building_keeps s (Down name) builds = known_keeps s (pid_of s.routing name) _ (λ who. record { ports = refl; size = refl })
building_keeps s (Export name text) builds = known_keeps s (pid_of s.routing name) _ (λ who. ruled_keeps s who (bound_read s.routing (rules_of_text text)))
building_keeps s (Outbound name text) builds = known_keeps s (pid_of s.routing name) _ (λ who. sent_keeps s who text (policy_of_text text))
building_keeps s (Inbound name text) builds = known_keeps s (pid_of s.routing name) _ (λ who. received_keeps s who text (policy_of_text text))
building_keeps s e builds = absurd (cc)
