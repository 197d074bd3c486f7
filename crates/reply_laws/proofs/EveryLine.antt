-- Each line has a reply that fits.
use Rattle.std.proofs.Common.{◌≡◌, nat_eq, nat_lt, ℕ, ◌<◌, ◌≤◌, ◌^◌, Bool, true, false, not, List, [], ◌∷◌, ◌++◌, length, map, sym, ap, subst, ◌∙◌, refl, arith}
use Rattle.std.specs.Prelude.{Option, Some, None, Result, Ok, Err, is_some, MatchOption, slice_get, take, unwrap_or}
use Rattle.std.specs.FinMap.{FinMap, contains_key-keys, empty, get, get-empty, keys}
use Rattle.std.proofs.lemmas.Bool.{false≢true}
use Rattle.events.proofs.Reached.{declared_pid}
use Rattle.events.specs.After.{next, with_named}
use Rattle.events.specs.Forms.{IsWellFormed}
use Rattle.events.specs.Fits.{Fits, FitsBy, IsAnswer, IsSent, IsTagged, adverts, asks_for, bare, by_table, all_flows, dropped, is_of_job, is_receivers, is_senders, none_rebuilt, responder_reply, tagged_frame}
use Rattle.events.specs.Pending.{pending, with_all_news}
use Rattle.events.specs.Refusals.{if_short, inbound_refusal, is_datagram, outbound_refusal, refusal, refused_if}
use Rattle.events.specs.Resolving.{is_resolved, tag_address, unresolved}
use Rattle.events.specs.State.{State, port_of, present, told_to}
use Rattle.events.specs.declared.Entry.{Entry}
use Rattle.events.specs.declared.Event.{Event}
use Rattle.events.specs.declared.Event.TheVariants.{Bad, Exchange, Participant as DeclaresParticipant, Port as DeclaresPort, Update, Down, Export, Outbound, Inbound, Take, Drain, Arp, Resolve, Packet, Frame, Recompile, Work, Table}
use Rattle.events.specs.declared.Head.TheVariants.{Fine, Unrouted, Unresolved, Refused}
use Rattle.events.specs.declared.Refusal.{Refusal}
use Rattle.events.specs.declared.Refusal.TheVariants.{BadPacket}
use Rattle.events.specs.declared.Reply.{Reply}
use Rattle.exchange_laws.proofs.Bases.{inbound_bases, outbound_bases, steady_are_bases}
use Rattle.exchange_laws.proofs.Edited.{reroutings_are_changes, reroutings_are_edits}
use Rattle.exchange_laws.proofs.Forwarded.{forwarded}
use Rattle.exchange_laws.proofs.Framing.{readdressed, tagged_octets}
use Rattle.exchange_laws.proofs.FullTables.{accepted_lines_fit}
use Rattle.exchange_laws.proofs.LineSteps.{short}
use Rattle.exchange_laws.proofs.Octets.{no_octets, octets_append, octets_more}
use Rattle.exchange_laws.proofs.PolicyEdits.{inbounds_are_changes, inbounds_are_edits, outbounds_are_changes, outbounds_are_edits}
use Rattle.exchange_laws.proofs.PoolTags.{told_small}
use Rattle.exchange_laws.proofs.QuietLines.{quiet_lines_are_accepted}
use Rattle.exchange_laws.proofs.Rerouted.{Rerouted, known, passes, rerouted}
use Rattle.exchange_laws.proofs.ToldAnew.{drains_are_accepted, takes_are_accepted}
use Rattle.exchange_laws.specs.Editing.{IsBase, inbound_base, outbound_base}
use Rattle.exchange_laws.specs.Octets.{AreOctets, IsMac}
use Rattle.exchange_laws.specs.Quiet.{is_quiet}
use Rattle.exchange_laws.specs.Rerouting.{IsRerouting, is_rerouting}
use Rattle.exchange_laws.specs.Steady.{IsSteady}
use Rattle.exchange_laws.specs.Telling.{told_anew}
use Rattle.grammar.specs.TextReading.{Fault as Misread}
use Rattle.net_types.proofs.FindLemmas.{find-IsFound}
use Rattle.net_types.proofs.LongestLemmas.{IsLongest, is_longest}
use Rattle.net_types.proofs.OrderLemmas.{prefix_tie, prefixes_total}
use Rattle.net_types.proofs.OrderedLemmas.{member_any}
use Rattle.net_types.specs.Arp.{no_mac}
use Rattle.net_types.specs.Exports.{pid_of}
use Rattle.net_types.specs.Frames.{destination, framed}
use Rattle.net_types.specs.Keys.{prefix_cmp}
use Rattle.net_types.specs.Naming.{named_in}
use Rattle.net_types.specs.Policies.{Policy}
use Rattle.net_types.specs.PolicyReading.{policy_of_text}
use Rattle.net_types.specs.Routes.{longest_of}
use Rattle.net_types.specs.Sets.{Member}
use Rattle.net_types.specs.declared.address.Mac.{Mac}
use Rattle.net_types.specs.declared.address.Pid.{Pid}
use Rattle.net_types.specs.declared.address.PortNo.{PortNo}
use Rattle.net_types.specs.declared.prefix.Prefix.{Prefix}
use Rattle.net_types.specs.declared.route.PortInfo.{PortInfo}
use Rattle.reply_laws.proofs.BuiltLines.{built_reply}
use Rattle.reply_laws.specs.Replying.{HasOctets, LinesHaveReplies, PortsHaveMacs}

-- ---- octets

no_mac_octets : AreOctets no_mac.0
no_mac_octets =
    octets_more 0 (0 ∷ 0 ∷ 0 ∷ 0 ∷ 0 ∷ []) (omega arith) (octets_more 0 (0 ∷ 0 ∷ 0 ∷ 0 ∷ []) (omega arith) (octets_more 0 (0 ∷ 0 ∷ 0 ∷ []) (omega arith)
    (octets_more 0 (0 ∷ 0 ∷ []) (omega arith) (octets_more 0 (0 ∷ []) (omega arith) (octets_more 0 [] (omega arith) no_octets)))))

framed_octets : (from : Mac) (bytes : List ℕ) → IsMac from → AreOctets bytes → AreOctets (framed no_mac from bytes)
framed_octets from bytes mac octets =
    octets_append (no_mac.0 ++ from.0) (8 ∷ 0 ∷ bytes) (octets_append no_mac.0 from.0 no_mac_octets mac.octets)
    (octets_more 8 (0 ∷ bytes) (omega arith) (octets_more 0 bytes (omega arith) octets))

-- ---- a datagram

not_stopped : (b : Bool) → refused_if (not b) BadPacket ≡ None → b ≡ true
not_stopped true e = refl
not_stopped false e = absurd (cc)

module _ (s : State) (steady : IsSteady s) (n : PortNo) (bytes : List ℕ) (low : n.0 < 2 ^ 16) (octets : AreOctets bytes) (datagram : is_datagram bytes ≡ true) (q : PortInfo) (found : port_of s n ≡ Some q) (mac : IsMac q.mac) where
  tagged_reply : (p : Prefix) (told : Entry) → get (told_to s q.owner) p ≡ Some told → told.tag.0 ≤ 65536 → (b : Bool) → (r : Reply) × IsTagged b s q bytes p told r
  tagged_reply p told has small true = (
    record (bare Fine) { frames = by_table s q (tagged_frame q told.tag bytes) },
    forwarded s steady n q found bytes mac.six low datagram p told has
        (subst AreOctets (readdressed q told.tag no_mac bytes refl mac.six) (tagged_octets told.tag (framed no_mac q.mac bytes) small (framed_octets q.mac bytes mac octets))),
  )
  tagged_reply p told has small false = (bare (Unresolved (tag_address s told.tag)), refl)

  small_tag : (p : Prefix) (told : Entry) → get (told_to s q.owner) p ≡ Some told → told.tag.0 ≤ 65536
  small_tag p told has = by (slice_get s.told q.owner.0) refl
    where
      by : (o : Option (FinMap prefix_cmp Entry)) → slice_get s.told q.owner.0 ≡ o → told.tag.0 ≤ 65536
      by None none = absurd (let nothing : get (empty {K = Prefix} {X = Entry} {R = prefix_cmp}) p ≡ None = get-empty prefix_cmp p in let here : get (empty {K = Prefix} {X = Entry} {R = prefix_cmp}) p ≡ Some told = ap (λ o. get (unwrap_or o empty) p) (sym none) ∙ has in cc)
      by (Some entries) at = told_small steady q.owner.0 entries at p told (ap (λ o. get (unwrap_or o empty) p) (sym at) ∙ has)

  told_reply : (p : Prefix) → Member p (keys (told_to s q.owner)) → (o : Option Entry) → get (told_to s q.owner) p ≡ o
      → (r : Reply) × MatchOption o ⊥ (λ told. IsTagged (is_resolved s q.number (tag_address s told.tag)) s q bytes p told r)
  told_reply p m None none = absurd (false≢true (sym (ap is_some none) ∙ contains_key-keys (told_to s q.owner) p ∙ member_any prefix_cmp prefixes_total prefix_tie p (keys (told_to s q.owner)) m))
  told_reply p m (Some told) has = tagged_reply p told has (small_tag p told has) (is_resolved s q.number (tag_address s told.tag))

  sent_reply : (o : Option Prefix) → IsLongest (keys (told_to s q.owner)) (destination bytes) o → (r : Reply) × IsSent s q bytes r o
  sent_reply None none = (bare Unrouted, refl)
  sent_reply (Some p) longest = told_reply p longest.0 (get (told_to s q.owner) p) refl

-- ---- lines that no refusal stops

quietly : (s : State) (e : Event) (r : Reply) → IsSteady s → IsWellFormed e → is_of_job e ≡ false → refusal s e ≡ None → is_quiet e ≡ true → IsAnswer s e r (next s e r) → (x : Reply) × Fits s e x
quietly s e r steady formed other none quiet answer = (r, (quiet_lines_are_accepted s e r steady formed other none quiet answer).1)

-- a line whose port is declared
at_port : (s : State) (n : PortNo) (q : PortInfo) → port_of s n ≡ Some q → (P : PortInfo → Type 0) → P q → MatchOption (port_of s n) ⊥ P
at_port s n q found P holds = subst (λ o. MatchOption o ⊥ P) (sym found) holds

packet_reply : (s : State) (n : PortNo) (bytes : List ℕ) → IsSteady s → PortsHaveMacs s → IsWellFormed (Packet n bytes) → AreOctets bytes → refusal s (Packet n bytes) ≡ None → (r : Reply) × Fits s (Packet n bytes) r
packet_reply s n bytes steady macs formed octets none =
    let k = known (port_of s n) (λ q. refused_if (not (is_datagram bytes)) BadPacket) (passes s (Packet n bytes) none).1 in
    let q : PortInfo = k.0 in
    let mac : IsMac q.mac = macs q (find-IsFound (λ (x : PortInfo). nat_eq x.number.0 n.0) s.routing.ports q k.1).stands in
    let high : n.0 ≤ 65279 = formed.1 in
    let low : n.0 < 2 ^ 16 = omega (arith, high) in
    let sent = sent_reply s steady n bytes low octets (not_stopped (is_datagram bytes) k.2) q k.1 mac (longest_of (keys (told_to s q.owner)) (destination bytes)) (is_longest (keys (told_to s q.owner)) (destination bytes)) in
    quietly s (Packet n bytes) sent.0 steady formed refl none refl (at_port s n q k.1 (λ x. IsSent s x bytes sent.0 (longest_of (keys (told_to s x.owner)) (destination bytes))) sent.1)

resolve_reply : (s : State) (n : PortNo) → IsSteady s → IsWellFormed (Resolve n) → refusal s (Resolve n) ≡ None → (r : Reply) × Fits s (Resolve n) r
resolve_reply s n steady formed none =
    let k = known (port_of s n) (λ q. None) (passes s (Resolve n) none).1 in
    let r : Reply = record (bare Fine) { asks = map (asks_for s k.0) (unresolved s k.0) } in
    quietly s (Resolve n) r steady formed refl none refl (at_port s n k.0 k.1 (λ q. r ≡ record (bare Fine) { asks = map (asks_for s q) (unresolved s q) }) refl)

frame_reply : (s : State) (n : PortNo) (bytes : List ℕ) → IsSteady s → IsWellFormed (Frame n bytes) → refusal s (Frame n bytes) ≡ None → (r : Reply) × Fits s (Frame n bytes) r
frame_reply s n bytes steady formed none =
    let k = known (port_of s n) (λ q. None) (passes s (Frame n bytes) none).1 in
    let r : Reply = record (bare Fine) { frames = by_table s k.0 bytes } in
    quietly s (Frame n bytes) r steady formed refl none refl (at_port s n k.0 k.1 (λ q. r ≡ record (bare Fine) { frames = by_table s q bytes }) refl)

drain_reply : (s : State) (name : List ℕ) → IsSteady s → refusal s (Drain name) ≡ None → (r : Reply) × Fits s (Drain name) r
drain_reply s name steady none =
    let k = known (pid_of s.routing name) (λ who. None) (passes s (Drain name) none).1 in
    let s1 : State = told_anew s k.0 (present s k.0) in
    let r : Reply = record (bare Fine) { drops = dropped s s1 none_rebuilt; adverts = adverts s k.0 (pending s k.0) } in
    let law = drains_are_accepted s name k.0 r steady.sound k.1 (record { head = refl; tags = refl; drops = refl; adds = refl; adverts = refl; asks = refl; frames = refl }) in
    (r, accepted_lines_fit s (Drain name) r none law.1)

take_reply : (s : State) (name : List ℕ) (count : ℕ) → IsSteady s → refusal s (Take name count) ≡ None → (r : Reply) × Fits s (Take name count) r
take_reply s name count steady none =
    let k = known (pid_of s.routing name) (λ who. None) (passes s (Take name count) none).1 in
    let ps : List Prefix = take count (pending s k.0) in
    let s1 : State = told_anew s k.0 (with_all_news (present s k.0) (told_to s k.0) ps) in
    let r : Reply = record (bare Fine) { drops = dropped s s1 none_rebuilt; adverts = adverts s k.0 ps } in
    let law = takes_are_accepted s name k.0 count r steady.sound k.1 (record { head = refl; tags = refl; drops = refl; adds = refl; adverts = refl; asks = refl; frames = refl }) in
    (r, accepted_lines_fit s (Take name count) r none law.1)

rerouting_reply : (s : State) (e : Event) → IsSteady s → is_rerouting e ≡ true → refusal s e ≡ None → (r : Reply) × Fits s e r
rerouting_reply s e steady rerouting none =
    let to : Rerouted s e = rerouted s e rerouting none in
    let is : IsRerouting s e to.routing = record { passes = none; building = rerouting; leaves = to.leaves } in
    let base : IsBase s none_rebuilt = steady_are_bases s steady in
    built_reply s to.routing none_rebuilt base (reroutings_are_changes s e to.routing base is) s e (reroutings_are_edits s e to.routing is)

-- ---- policies

read_outbound_reply : (s : State) (name text : List ℕ) (who : Pid) → IsSteady s → pid_of s.routing name ≡ Some who → refusal s (Outbound name text) ≡ None → (o : Result Policy Misread) → policy_of_text text ≡ o → outbound_refusal s who text o ≡ None
    → (r : Reply) × Fits s (Outbound name text) r
read_outbound_reply s name text who steady declared none (Err fault) read free = absurd (cc)
read_outbound_reply s name text who steady declared none (Ok p) read free =
    let named : List Pid = named_in (pid_of s.routing) p in
    built_reply (outbound_base s who text named) (with_named s.routing who named) (is_senders s who) (outbound_bases s who text p steady (declared_pid s.routing name who declared) read)
    (outbounds_are_changes s name text who p steady declared read none) s (Outbound name text) (outbounds_are_edits s name text who p steady declared read none)

read_inbound_reply : (s : State) (name text : List ℕ) (who : Pid) → IsSteady s → pid_of s.routing name ≡ Some who → refusal s (Inbound name text) ≡ None → (o : Result Policy Misread) → policy_of_text text ≡ o → inbound_refusal s who o ≡ None
    → (r : Reply) × Fits s (Inbound name text) r
read_inbound_reply s name text who steady declared none (Err fault) read free = absurd (cc)
read_inbound_reply s name text who steady declared none (Ok p) read free =
    built_reply (inbound_base s who text) s.routing (is_receivers s who) (inbound_bases s who text p steady (declared_pid s.routing name who declared) read)
    (inbounds_are_changes s who text p steady read) s (Inbound name text) (inbounds_are_edits s name text who p steady declared read none)

outbound_reply : (s : State) (name text : List ℕ) → IsSteady s → refusal s (Outbound name text) ≡ None → (r : Reply) × Fits s (Outbound name text) r
outbound_reply s name text steady none =
    let refuses : Pid → Option Refusal = λ w. outbound_refusal s w text (policy_of_text text) in
    let k = known (pid_of s.routing name) (λ w. if_short text (refuses w)) (passes s (Outbound name text) none).1 in
    read_outbound_reply s name text k.0 steady k.1 none (policy_of_text text) refl (short (nat_lt 8192 (length text)) (refuses k.0) k.2)

inbound_reply : (s : State) (name text : List ℕ) → IsSteady s → refusal s (Inbound name text) ≡ None → (r : Reply) × Fits s (Inbound name text) r
inbound_reply s name text steady none =
    let refuses : Pid → Option Refusal = λ w. inbound_refusal s w (policy_of_text text) in
    let k = known (pid_of s.routing name) (λ w. if_short text (refuses w)) (passes s (Inbound name text) none).1 in
    read_inbound_reply s name text k.0 steady k.1 none (policy_of_text text) refl (short (nat_lt 8192 (length text)) (refuses k.0) k.2)

answered : (s : State) (e : Event) → IsSteady s → PortsHaveMacs s → IsWellFormed e → is_of_job e ≡ false → HasOctets e → refusal s e ≡ None → (r : Reply) × Fits s e r
answered s Bad steady macs formed other octets none = absurd (let never = (passes s Bad none).1 in cc)
answered s (Exchange base size capacity) steady macs formed other octets none = quietly s (Exchange base size capacity) (bare Fine) steady formed refl none refl refl
answered s (DeclaresParticipant name asn id) steady macs formed other octets none = quietly s (DeclaresParticipant name asn id) (bare Fine) steady formed refl none refl refl
answered s (DeclaresPort name number ip mac) steady macs formed other octets none = quietly s (DeclaresPort name number ip mac) (bare Fine) steady formed refl none refl refl
answered s (Update name bytes) steady macs formed other octets none = rerouting_reply s (Update name bytes) steady refl none
answered s (Down name) steady macs formed other octets none = rerouting_reply s (Down name) steady refl none
answered s (Export name text) steady macs formed other octets none = rerouting_reply s (Export name text) steady refl none
answered s (Outbound name text) steady macs formed other octets none = outbound_reply s name text steady none
answered s (Inbound name text) steady macs formed other octets none = inbound_reply s name text steady none
answered s (Take name count) steady macs formed other octets none = take_reply s name count steady none
answered s (Drain name) steady macs formed other octets none = drain_reply s name steady none
answered s (Arp n bytes) steady macs formed other octets none = quietly s (Arp n bytes) (responder_reply s bytes) steady formed refl none refl refl
answered s (Resolve n) steady macs formed other octets none = resolve_reply s n steady formed none
answered s (Packet n bytes) steady macs formed other octets none = packet_reply s n bytes steady macs formed octets none
answered s (Frame n bytes) steady macs formed other octets none = frame_reply s n bytes steady formed none
answered s Recompile steady macs formed other octets none = absurd (cc)
answered s (Work units) steady macs formed other octets none = absurd (cc)
answered s Table steady macs formed other octets none = quietly s Table (record (bare Fine) { adds = all_flows s }) steady formed refl none refl refl

pub lines_have_replies : LinesHaveReplies
lines_have_replies s e steady macs formed other octets = by (refusal s e) refl
  where
    by : (o : Option Refusal) → refusal s e ≡ o → (r : Reply) × Fits s e r
    by (Some why) is = (bare (Refused why), subst (λ o. FitsBy o s e (bare (Refused why))) (sym is) refl)
    by None none = answered s e steady macs formed other octets none
