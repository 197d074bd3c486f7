-- In a legal run no rule of a reply has a cube of a port: the tables that it passes have right rules of policies that passed.
use Rattle.std.proofs.Common.{◌≡◌, ℕ, Bool, true, false, cond, T, List, [], ◌∷◌, ◌++◌, inl, inr, map, refl, sym, ap, subst, ◌∙◌}
use Rattle.std.specs.Prelude.{Option, Some, None, MatchOption, filter, is_none, nat_lt, take, ◌||◌}
use Rattle.std.specs.FinMap.{entries, entries_sorted, find, get, get-entries, is_sorted, keys}
use Rattle.std.specs.FinMap.Entries.{below_all}
use Rattle.std.specs.Ordering.{eq_by_cmp}
use Rattle.net_types.proofs.OrderLemmas.{pairs_total}
use Rattle.net_types.proofs.RisingLemmas.{filter-Member}
use Rattle.net_types.proofs.TieLemmas.{ties_itself}
use Rattle.net_types.proofs.ValueLemmas.{later_apart, no_entries}
use Rattle.net_types.specs.Answers.{Policies}
use Rattle.net_types.specs.Arp.{arp_reply, asked_ip, asker_ip, asker_mac}
use Rattle.net_types.specs.Exports.{pid_of}
use Rattle.net_types.specs.Keys.{pair_cmp}
use Rattle.net_types.specs.Routes.{longest_of}
use Rattle.net_types.specs.Sets.{Each, Member, union_over}
use Rattle.net_types.specs.declared.prefix.Prefix.{Prefix}
use Rattle.net_types.specs.declared.route.PortInfo.{PortInfo}
use Rattle.net_types.specs.declared.rule.Pair.{Pair}
use Rattle.net_types.specs.declared.rule.Rule.{Rule}
use Rattle.events.specs.After.{next}
use Rattle.events.specs.Fits.{FitsBy, IsAccepted, IsAnswer, IsBuilt, IsSent, IsTagged, IsTaken, IsWorked, Passes, added, all_flows, asks_for, bare, by_table, flows_of, is_building, is_receivers, is_senders, none_rebuilt, responder_reply}
use Rattle.net_types.specs.Frames.{destination}
use Rattle.events.specs.Legal.{Legal, LegalFrom, state_after}
use Rattle.events.specs.Pending.{pending}
use Rattle.events.specs.Refusals.{refusal}
use Rattle.events.specs.Resolving.{is_pool_request, is_resolved, pool_mac, tag_address, unresolved}
use Rattle.events.specs.Sound.{IsRight, IsSound}
use Rattle.events.specs.State.{State, ArePassed, ArePolicies, first, port_of, told_to}
use Rattle.events.specs.declared.Entry.{Entry}
use Rattle.events.specs.declared.Event.{Event}
use Rattle.events.specs.declared.Event.TheVariants.{Bad, Exchange, Participant, Port, Update, Down, Export, Outbound, Inbound, Take, Drain, Arp, Resolve, Packet, Frame, Recompile, Work, Table}
use Rattle.events.specs.declared.Flow.{Flow}
use Rattle.events.specs.declared.Head.TheVariants.{Fine, Silent, Unresolved, Unrouted, Refused}
use Rattle.events.specs.declared.Refusal.{Refusal}
use Rattle.events.specs.declared.Refusal.TheVariants.{TableFull}
use Rattle.events.specs.declared.Reply.{Reply}
use Rattle.exchange_laws.proofs.ReadPolicies.{policies_are_one}
use Rattle.run_laws.proofs.OneMore.{legal_more, state_more}
use Rattle.run_laws.proofs.Passing.{policies_have_passed}
use Rattle.text_laws.specs.Naming.{AddsNoPort, IsOfNoPort, LegalRulesAreOfNoPort}
use Rattle.text_laws.proofs.Portless.{right_rules_are_of_no_port}
use Rattle.net_types.proofs.TestLemmas.{both_hold}
use Rattle.net_types.proofs.MemberLemmas.{each_append}

-- ---- tables

abbrev pub AreFree : List Rule → Type 0
AreFree rules = Each (λ (r : Rule). IsOfNoPort r.cube) rules

abbrev FlowsAreFree : List Flow → Type 0
FlowsAreFree flows = Each (λ (f : Flow). IsOfNoPort f.rule.cube) flows

-- no rule of the table has an inport
abbrev pub TableIsFree : State → Type 0
TableIsFree s = (pair : Pair) (rules : List Rule) → get s.table pair ≡ Some rules → AreFree rules

pub sound_free : (s : State) (ps : Policies) → ArePolicies s ps → ArePassed s ps → IsSound s → TableIsFree s
sound_free s ps are passed sound pair rules there =
    let known = sound.right.2 pair rules there in
    right_rules_are_of_no_port s ps passed known.0 pair.port rules (subst (λ x. IsRight x known.0 pair.port rules) (policies_are_one sound.right.1 are) known.2)

-- an entry of a map is what the map has at its key
entry_found : (es : List (Pair × List Rule)) → T (is_sorted pair_cmp es) → (e : Pair × List Rule) → Member e es → find pair_cmp e.0 es ≡ Some e.1
entry_found [] sorted e m = elim m [ ]
entry_found (d ∷ es) sorted e (inl same) =
    subst (λ x. cond (eq_by_cmp pair_cmp x.0 d.0) (Some d.1) (find pair_cmp x.0 es) ≡ Some x.1) (sym same) (ap (λ b. cond b (Some d.1) (find pair_cmp d.0 es)) (ties_itself pairs_total d.0))
entry_found (d ∷ es) sorted e (inr m) =
    let sorts = both_hold (below_all pair_cmp d.0 es) (is_sorted pair_cmp es) sorted in
    let later = entry_found es sorts.1 e m in
    ap (λ b. cond b (Some d.1) (find pair_cmp e.0 es)) (later_apart pair_cmp pairs_total d.0 e.0 e.1 es sorts.0 later) ∙ later

entry_free : (s : State) → TableIsFree s → (e : Pair × List Rule) → Member e (entries s.table) → AreFree e.1
entry_free s free e m = free e.0 e.1 (get-entries s.table e.0 ∙ entry_found (entries s.table) (entries_sorted s.table) e m)

rules_free : (pair : Pair) (rules : List Rule) → AreFree rules → FlowsAreFree (map (λ rule. let f : Flow = record { pair = pair; rule = rule } in f) rules)
rules_free pair [] free = tt
rules_free pair (r ∷ rules) free = (free.0, rules_free pair rules free.1)

flows_free : (es : List (Pair × List Rule)) → ((e : Pair × List Rule) → Member e es → AreFree e.1) → FlowsAreFree (union_over flows_of es)
flows_free [] free = tt
flows_free (e ∷ es) free =
    each_append (λ (f : Flow). IsOfNoPort f.rule.cube) (flows_of e) (union_over flows_of es) (rules_free e.0 e.1 (free e (inl refl))) (flows_free es (λ d m. free d (inr m)))

all_free : (s : State) → TableIsFree s → FlowsAreFree (all_flows s)
all_free s free = flows_free (entries s.table) (entry_free s free)

added_free : (s s1 : State) (is_rebuilt : Pair → Bool) → TableIsFree s1 → FlowsAreFree (added s s1 is_rebuilt)
added_free s s1 is_rebuilt free =
    let test : Pair × List Rule → Bool = λ (e : Pair × List Rule). is_none (get s.table e.0) || is_rebuilt e.0 in
    flows_free (filter test (entries s1.table)) (λ e m. entry_free s1 free e (filter-Member test (entries s1.table) e m).stands)

-- ---- replies

-- the reply adds these, and they are of no port
these : (r : Reply) (flows : List Flow) → r.adds ≡ flows → FlowsAreFree flows → AddsNoPort r
these r flows is free = subst FlowsAreFree (sym is) free

-- it is such a reply
like : (r x : Reply) → r ≡ x → AddsNoPort x → AddsNoPort r
like r x is free = subst AddsNoPort (sym is) free

built : (s s1 : State) (is_rebuilt : Pair → Bool) (r : Reply) → TableIsFree s1 → IsBuilt s s1 is_rebuilt r → AddsNoPort r
built s s1 is_rebuilt r free is = these r (added s s1 is_rebuilt) is.adds (added_free s s1 is_rebuilt free)

responded : (s : State) (r : Reply) (frame : List ℕ) → r ≡ responder_reply s frame → AddsNoPort r
responded s r frame is = by (is_pool_request s frame) (record (bare Fine) { asks = record { request = None; reply = arp_reply (asker_mac frame) (asker_ip frame) (asked_ip frame) (pool_mac s (asked_ip frame)) } ∷ [] }) tt is
  where
    by : (b : Bool) (x : Reply) → AddsNoPort x → r ≡ cond b x (bare Silent) → AddsNoPort r
    by true x free is = like r x is free
    by false x free is = like r (bare Silent) is tt

tagged : (b : Bool) (s : State) (q : PortInfo) (bytes : List ℕ) (p : Prefix) (told : Entry) (r : Reply) → IsTagged b s q bytes p told r → AddsNoPort r
tagged true s q bytes p told r is = like r _ is.by_table tt
tagged false s q bytes p told r is = like r (bare (Unresolved (tag_address s told.tag))) is tt

-- where something is known
where_known : {X : Type 0} (r : Reply) (o : Option X) (Q : X → Type 0) → ((x : X) → Q x → AddsNoPort r) → MatchOption o ⊥ Q → AddsNoPort r
where_known r None Q then none = absurd none
where_known r (Some x) Q then is = then x is

sent : (s : State) (q : PortInfo) (bytes : List ℕ) (r : Reply) (o : Option Prefix) → IsSent s q bytes r o → AddsNoPort r
sent s q bytes r None is = like r (bare Unrouted) is tt
sent s q bytes r (Some p) is =
    where_known r (get (told_to s q.owner) p) (λ told. IsTagged (is_resolved s q.number (tag_address s told.tag)) s q bytes p told r) (λ told. tagged (is_resolved s q.number (tag_address s told.tag)) s q bytes p told r) is

worked : (b : Bool) (s s1 : State) (units owed : ℕ) (r : Reply) → TableIsFree s1 → IsWorked b s s1 units owed r → AddsNoPort r
worked true s s1 units owed r free is = like r _ is tt
worked false s s1 units owed r free is = these r _ is.adds (added_free s s1 _ free)

answered : (s : State) (e : Event) (r : Reply) (s1 : State) → TableIsFree s → TableIsFree s1 → IsAnswer s e r s1 → AddsNoPort r
answered s Bad r s1 here free is = absurd is
answered s (Exchange base size capacity) r s1 here free is = like r (bare Fine) is tt
answered s (Participant name asn id) r s1 here free is = like r (bare Fine) is tt
answered s (Port name number ip mac) r s1 here free is = like r (bare Fine) is tt
answered s (Update name bytes) r s1 here free is = built s s1 none_rebuilt r free is
answered s (Down name) r s1 here free is = built s s1 none_rebuilt r free is
answered s (Export name text) r s1 here free is = built s s1 none_rebuilt r free is
answered s (Outbound name text) r s1 here free is = where_known r (pid_of s.routing name) (λ who. IsBuilt s s1 (is_senders s1 who) r) (λ who. built s s1 (is_senders s1 who) r free) is
answered s (Inbound name text) r s1 here free is = where_known r (pid_of s.routing name) (λ who. IsBuilt s s1 (is_receivers s1 who) r) (λ who. built s s1 (is_receivers s1 who) r free) is
answered s (Take name count) r s1 here free is =
    where_known r (pid_of s.routing name) (λ who. IsTaken s s1 who (take count (pending s who)) r) (λ who taken. these r [] taken.adds tt) is
answered s (Drain name) r s1 here free is = where_known r (pid_of s.routing name) (λ who. IsTaken s s1 who (pending s who) r) (λ who taken. these r [] taken.adds tt) is
answered s (Arp n bytes) r s1 here free is = responded s r bytes is
answered s (Resolve n) r s1 here free is = where_known r (port_of s n) (λ q. r ≡ record (bare Fine) { asks = map (asks_for s q) (unresolved s q) }) (λ q e. like r _ e tt) is
answered s (Frame n bytes) r s1 here free is = where_known r (port_of s n) (λ q. r ≡ record (bare Fine) { frames = by_table s q bytes }) (λ q e. like r _ e tt) is
answered s Table r s1 here free is = like r _ is (all_free s here)
answered s Recompile r s1 here free is = like r _ is tt
answered s (Work units) r s1 here free is = where_known r s.owed (λ owed. IsWorked (nat_lt units owed) s s1 units owed r) (λ owed. worked (nat_lt units owed) s s1 units owed r free) is
answered s (Packet n bytes) r s1 here free is =
    where_known r (port_of s n) (λ q. IsSent s q bytes r (longest_of (keys (told_to s q.owner)) (destination bytes))) (λ q. sent s q bytes r (longest_of (keys (told_to s q.owner)) (destination bytes))) is

-- ---- lines

-- the rules of the reply are of no port, and so are those of the table after it
abbrev StaysFree : State → Event → Reply → Type 0
StaysFree s e r = AddsNoPort r × TableIsFree (next s e r)

module _ (s : State) (e : Event) (r : Reply) (here : TableIsFree s) (later : IsSound (next s e r) → TableIsFree (next s e r)) where
  refused : (why : Refusal) → r ≡ bare (Refused why) → StaysFree s e r
  refused why is = subst (λ x. StaysFree s e x) (sym is) (tt, here)

  accepted : IsAccepted s e r → StaysFree s e r
  accepted is = let free : TableIsFree (next s e r) = later is.sound in (answered s e r (next s e r) here free is.answer, free)

  passed : (b : Bool) → Passes b s e r → StaysFree s e r
  passed true (inl is) = accepted is
  passed true (inr full) = refused (TableFull full.rules s.capacity) full.head
  passed false is = accepted is

  fitting : (o : Option Refusal) → FitsBy o s e r → StaysFree s e r
  fitting (Some why) is = refused why is
  fitting None is = passed (is_building e) is

-- ---- runs

sound_run : (es : List Event) (rs : List Reply) → Legal es rs → IsSound (state_after es rs) → TableIsFree (state_after es rs)
sound_run es rs legal sound = let ps = policies_have_passed es rs legal in sound_free (state_after es rs) ps.0 ps.1 ps.2 sound

-- the replies that go on a run
from_free : (done : List Event) (said : List Reply) → Legal done said → TableIsFree (state_after done said) → (es : List Event) (rs : List Reply) → LegalFrom (state_after done said) es rs → Each AddsNoPort rs
from_free done said legal free es [] more = tt
from_free done said legal free [] (r ∷ rs) more = absurd more
from_free done said legal free (e ∷ es) (r ∷ rs) more =
    let s : State = state_after done said in
    let longer : Legal (done ++ e ∷ []) (said ++ r ∷ []) = legal_more first done said e r legal more.0 in
    let there : next s e r ≡ state_after (done ++ e ∷ []) (said ++ r ∷ []) = sym (state_more first done said e r legal) in
    let sounds : IsSound (next s e r) → TableIsFree (next s e r) = subst (λ x. IsSound x → TableIsFree x) (sym there) (sound_run (done ++ e ∷ []) (said ++ r ∷ []) longer) in
    let step : StaysFree s e r = fitting s e r free sounds (refusal s e) more.0 in
    (step.0, from_free (done ++ e ∷ []) (said ++ r ∷ []) longer (subst TableIsFree there step.1) es rs (subst (λ x. LegalFrom x es rs) there more.1))

start_free : TableIsFree first
start_free pair rules there =
    let none : get first.table pair ≡ None = get-entries first.table pair ∙ ap (λ es. find pair_cmp pair es) (no_entries Pair (List Rule) pair_cmp) in absurd (cc)

pub legal_rules_are_of_no_port : LegalRulesAreOfNoPort
legal_rules_are_of_no_port es rs legal = from_free [] [] tt start_free es rs legal
