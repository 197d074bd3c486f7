-- What the reply to an accepted line is: no refusal, and it tells nobody anything but what is present.
use Rattle.std.proofs.Common.{◌≡◌, ℕ, Bool, true, false, cond, List, [], ◌∷◌, map, ap, sym, ◌∙◌, refl}
use Rattle.std.specs.Prelude.{Option, Some, None, MatchOption, nat_lt, take}
use Rattle.std.specs.FinMap.{get, keys}
use Rattle.events.specs.Fits.{IsAnswer, IsBuilt, IsSent, IsTagged, IsTaken, IsWorked, adverts, asks_for, bare, by_table, is_receivers, is_senders, none_rebuilt, responder_reply}
use Rattle.net_types.specs.Frames.{destination}
use Rattle.events.specs.Pending.{pending}
use Rattle.events.specs.Resolving.{is_pool_request, is_resolved, pool_mac, tag_address, unresolved}
use Rattle.events.specs.State.{State, port_of, told_to}
use Rattle.events.specs.declared.Entry.{Entry}
use Rattle.events.specs.declared.Event.{Event}
use Rattle.events.specs.declared.Event.TheVariants.{Bad, Exchange, Participant, Port, Update, Down, Export, Outbound, Inbound, Take, Drain, Arp, Resolve, Packet, Frame, Recompile, Work, Table}
use Rattle.events.specs.declared.Head.{Head}
use Rattle.events.specs.declared.Head.TheVariants.{Fine, Finished, Unrouted, Unresolved, Silent, Refused}
use Rattle.events.specs.declared.Refusal.{Refusal}
use Rattle.events.specs.declared.Reply.{Reply}
use Rattle.net_types.specs.Arp.{arp_reply, asked_ip, asker_ip, asker_mac}
use Rattle.net_types.specs.Exports.{pid_of}
use Rattle.net_types.specs.Routes.{longest_of}
use Rattle.net_types.specs.declared.address.Pid.{Pid}
use Rattle.net_types.specs.declared.prefix.Prefix.{Prefix}
use Rattle.net_types.specs.declared.route.PortInfo.{PortInfo}
use Rattle.net_types.specs.declared.rule.Pair.{Pair}

-- a head that is no refusal
abbrev Accepts : Head → Type 0
Accepts h = (why : Refusal) → h ≡ Refused why → ⊥

-- the reply is no refusal, and its adverts tell a participant what is present of some prefixes
pub record IsAnswered (s : State) (r : Reply) : Type 0 where
  pub accepts : (why : Refusal) → r.head ≡ Refused why → ⊥
  pub who : Pid
  pub prefixes : List Prefix
  pub tells : r.adverts ≡ adverts s who prefixes

fine : Accepts Fine
fine why e = cc

-- a reply with this head, which tells nobody anything
quiet : (s : State) (r : Reply) (h : Head) → r.head ≡ h → Accepts h → r.adverts ≡ [] → IsAnswered s r
quiet s r h is accepts none = record { accepts = λ why e. accepts why (sym is ∙ e); who = record { 0 = 0 }; prefixes = []; tells = none }

-- it is such a reply
quietly : (s : State) (r x : Reply) → r ≡ x → Accepts x.head → x.adverts ≡ [] → IsAnswered s r
quietly s r x is accepts none = quiet s r x.head (ap (λ (y : Reply). y.head) is) accepts (ap (λ (y : Reply). y.adverts) is ∙ none)

built : (s s' : State) (f : Pair → Bool) (r : Reply) → IsBuilt s s' f r → IsAnswered s r
built s s' f r is = quiet s r Fine is.head fine is.adverts

taken : (s s' : State) (who : Pid) (ps : List Prefix) (r : Reply) → IsTaken s s' who ps r → IsAnswered s r
taken s s' who ps r is = record { accepts = λ why e. fine why (sym is.head ∙ e); who = who; prefixes = ps; tells = is.adverts }

responded : (s : State) (r : Reply) (frame : List ℕ) → r ≡ responder_reply s frame → IsAnswered s r
responded s r frame is = by (is_pool_request s frame) (record (bare Fine) { asks = record { request = None; reply = arp_reply (asker_mac frame) (asker_ip frame) (asked_ip frame) (pool_mac s (asked_ip frame)) } ∷ [] }) refl refl is
  where
    by : (b : Bool) (x : Reply) → x.head ≡ Fine → x.adverts ≡ [] → r ≡ cond b x (bare Silent) → IsAnswered s r
    by true x head none is = quiet s r Fine (ap (λ (y : Reply). y.head) is ∙ head) fine (ap (λ (y : Reply). y.adverts) is ∙ none)
    by false x head none is = quietly s r (bare Silent) is (λ why e. cc) refl

tagged : (b : Bool) (s : State) (q : PortInfo) (bytes : List ℕ) (p : Prefix) (told : Entry) (r : Reply) → IsTagged b s q bytes p told r → IsAnswered s r
tagged true s q bytes p told r is = quietly s r _ is.by_table fine refl
tagged false s q bytes p told r is = quietly s r (bare (Unresolved (tag_address s told.tag))) is (λ why e. cc) refl

-- where something is known
where_known : {X : Type 0} (s : State) (r : Reply) (o : Option X) (Q : X → Type 0) → ((x : X) → Q x → IsAnswered s r) → MatchOption o ⊥ Q → IsAnswered s r
where_known s r None Q then none = absurd none
where_known s r (Some x) Q then is = then x is

sent : (s : State) (q : PortInfo) (bytes : List ℕ) (r : Reply) (o : Option Prefix) → IsSent s q bytes r o → IsAnswered s r
sent s q bytes r None is = quietly s r (bare Unrouted) is (λ why e. cc) refl
sent s q bytes r (Some p) is =
    where_known s r (get (told_to s q.owner) p) (λ told. IsTagged (is_resolved s q.number (tag_address s told.tag)) s q bytes p told r) (λ told. tagged (is_resolved s q.number (tag_address s told.tag)) s q bytes p told r) is

worked : (b : Bool) (s s' : State) (units owed : ℕ) (r : Reply) → IsWorked b s s' units owed r → IsAnswered s r
worked true s s' units owed r is = quietly s r _ is (λ why e. cc) refl
worked false s s' units owed r is = quiet s r Finished is.head (λ why e. cc) is.adverts

pub answered : (s : State) (e : Event) (r : Reply) (s' : State) → IsAnswer s e r s' → IsAnswered s r
answered s Bad r s' is = absurd is
answered s (Exchange base size capacity) r s' is = quietly s r (bare Fine) is fine refl
answered s (Participant name asn id) r s' is = quietly s r (bare Fine) is fine refl
answered s (Port name number ip mac) r s' is = quietly s r (bare Fine) is fine refl
answered s (Update name bytes) r s' is = built s s' none_rebuilt r is
answered s (Down name) r s' is = built s s' none_rebuilt r is
answered s (Export name text) r s' is = built s s' none_rebuilt r is
answered s (Outbound name text) r s' is = where_known s r (pid_of s.routing name) (λ who. IsBuilt s s' (is_senders s' who) r) (λ who. built s s' (is_senders s' who) r) is
answered s (Inbound name text) r s' is = where_known s r (pid_of s.routing name) (λ who. IsBuilt s s' (is_receivers s' who) r) (λ who. built s s' (is_receivers s' who) r) is
answered s (Take name count) r s' is = where_known s r (pid_of s.routing name) (λ who. IsTaken s s' who (take count (pending s who)) r) (λ who. taken s s' who (take count (pending s who)) r) is
answered s (Drain name) r s' is = where_known s r (pid_of s.routing name) (λ who. IsTaken s s' who (pending s who) r) (λ who. taken s s' who (pending s who) r) is
answered s (Arp n bytes) r s' is = responded s r bytes is
answered s (Resolve n) r s' is = where_known s r (port_of s n) (λ q. r ≡ record (bare Fine) { asks = map (asks_for s q) (unresolved s q) }) (λ q e. quietly s r _ e fine refl) is
answered s (Frame n bytes) r s' is = where_known s r (port_of s n) (λ q. r ≡ record (bare Fine) { frames = by_table s q bytes }) (λ q e. quietly s r _ e fine refl) is
answered s Table r s' is = quietly s r _ is fine refl
answered s Recompile r s' is = quietly s r _ is (λ why e. cc) refl
answered s (Work units) r s' is = where_known s r s.owed (λ owed. IsWorked (nat_lt units owed) s s' units owed r) (λ owed. worked (nat_lt units owed) s s' units owed r) is
answered s (Packet n bytes) r s' is =
    where_known s r (port_of s n) (λ q. IsSent s q bytes r (longest_of (keys (told_to s q.owner)) (destination bytes))) (λ q. sent s q bytes r (longest_of (keys (told_to s q.owner)) (destination bytes))) is
