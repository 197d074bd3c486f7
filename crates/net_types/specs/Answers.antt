-- How a packet leaves by the isolated policies and the present routes alone: no classes, tags or tables (this exchange's
-- own rule: restriction to exported prefixes, and default forwarding).
use Rattle.std.specs.Prelude.{ℕ, Bool, false, nat_eq, List, [], ◌∷◌, slice_get, find, Option, Some, None, unwrap_or, if◌then◌else◌}
use Rattle.std.specs.List.{list_any}
use Rattle.std.specs.Option.{option_map_or}
use Rattle.net_types.specs.Exports.{Routing, route, exports}
use Rattle.net_types.specs.Policies.{Policy, Packet, Drop, den}
use Rattle.net_types.specs.Routes.{Candidate, best}
use Rattle.net_types.specs.Sets.{union_over}
use Rattle.net_types.specs.Signatures.{is_hole, port_with}
use Rattle.net_types.specs.declared.address.Pid.{Pid}
use Rattle.net_types.specs.declared.address.PortNo.{PortNo}
use Rattle.net_types.specs.declared.headers.Headers.{Headers}
use Rattle.net_types.specs.declared.headers.Loc.{Loc}
use Rattle.net_types.specs.declared.headers.Loc.TheVariants.{Stay, To, Out, Nowhere}
use Rattle.net_types.specs.declared.prefix.Prefix.{Prefix}
use Rattle.net_types.specs.declared.route.Attrs.{Attrs}
use Rattle.net_types.specs.declared.route.Offer.{Offer}
use Rattle.net_types.specs.declared.route.Part.{Part}

-- The participants' policies, read, with what a name in them stands for. A participant is its place in the lists.
pub record Policies : Type 0 where
  pub named : List ℕ → Option Pid
  pub outbound : List Policy
  pub inbound : List Policy

-- a participant's policy among all of them
abbrev pub policy_of : List Policy → Pid → Policy
policy_of policies who = unwrap_or (slice_get policies who.0) Drop

-- headers that leave by a port
pub record Leaving : Type 0 where
  pub headers : Headers
  pub port : PortNo

-- what is sent to a participant goes there, and nowhere where its route is a hole
abbrev pub towards : (Pid → Bool) → Pid → Loc
towards hole who = if hole who then Nowhere else To who

-- Where a result of the sender's policy goes: a participant that doesn't export the prefix is taken out, and what stays
-- goes to the best route's participant. What goes to a hole is discarded.
abbrev pub sent_to : (Pid → Bool) → (Pid → Bool) → Pid → Loc → List Loc
sent_to exporter hole chosen Stay = towards hole chosen ∷ []
sent_to exporter hole chosen (To who) = if exporter who then towards hole who ∷ [] else []
sent_to exporter hole chosen Nowhere = Nowhere ∷ []
sent_to exporter hole chosen (Out port) = []

-- default forwarding: where nothing remains, the packet goes to the best route's participant
abbrev pub or_default : (Pid → Bool) → Pid → List Loc → List Loc
or_default hole chosen [] = towards hole chosen ∷ []
or_default hole chosen (l ∷ ls) = l ∷ ls

-- Where the sender's policy sends a packet. A forward to a hole is discarded, and the default isn't taken for it: with a
-- policy that sends to B, where B exports the prefix and its route is a hole, nothing leaves.
abbrev pub sent : (List ℕ → Option Pid) → Policy → (Pid → Bool) → (Pid → Bool) → Pid → Headers → List Loc
sent names outbound exporter hole chosen h = or_default hole chosen (union_over (λ packet. sent_to exporter hole chosen packet.1) (den names outbound h Stay))

-- how a result of the receiver's policy leaves: what stays leaves by the port of the NEXT_HOP
abbrev pub leaves_by : PortNo → Headers → Loc → List Leaving
leaves_by q h (Out n) = record { headers = h; port = n } ∷ []
leaves_by q h Stay = record { headers = h; port = q } ∷ []
leaves_by q h Nowhere = []
leaves_by q h (To who) = []

-- a receiver whose policy gives the empty set lets the packet leave unchanged
abbrev pub or_unchanged : PortNo → Headers → List Packet → List Leaving
or_unchanged q h [] = record { headers = h; port = q } ∷ []
or_unchanged q h (p ∷ ps) = union_over (λ packet. leaves_by q packet.0 packet.1) (p ∷ ps)

-- what the receiver makes of a packet whose route has its NEXT_HOP at port q
abbrev pub received : (List ℕ → Option Pid) → Policy → PortNo → Headers → List Leaving
received names inbound q h = or_unchanged q h (den names inbound h Stay)

-- what becomes of a packet that was sent there
abbrev pub received_at : Policies → (Pid → PortNo) → Headers → Loc → List Leaving
received_at ps port h (To who) = received ps.named (policy_of ps.inbound who) (port who) h
received_at ps port h Stay = []
received_at ps port h Nowhere = []
received_at ps port h (Out n) = []

-- the packet is sent, and each receiver makes something of it; exporter, hole, chosen and port stand for the routes
abbrev pub answer_by : Policies → Pid → (Pid → Bool) → (Pid → Bool) → Pid → (Pid → PortNo) → Headers → List Leaving
answer_by ps sender exporter hole chosen port h =
    union_over (received_at ps port h) (sent ps.named (policy_of ps.outbound sender) exporter hole chosen h)

-- the port that has the address of the NEXT_HOP of a participant's route
abbrev pub next_port : Routing → Prefix → Pid → PortNo
next_port r p who = option_map_or (λ (attrs : Attrs). port_with r.ports attrs.next_hop) (route r who p) (record { 0 = 0 })

-- a participant's route for a prefix is a hole
abbrev pub has_hole : Routing → Prefix → Pid → Bool
has_hole r p who = option_map_or is_hole (route r who p) false

-- nothing leaves where there is no best route
abbrev pub answer_for : Policies → Routing → Pid → Prefix → Headers → Option Candidate → List Leaving
answer_for ps r sender p h None = []
answer_for ps r sender p h (Some c) = answer_by ps sender (λ who. exports r who sender p) (has_hole r p) c.from (next_port r p) h

-- how a packet leaves that a participant sends to a prefix
abbrev pub answer : Policies → Routing → Pid → Prefix → Headers → List Leaving
answer ps r sender p h = answer_for ps r sender p h (best r sender p)

-- a participant stands among the offers
abbrev pub is_offered : List Offer → Pid → Bool
is_offered offers who = list_any (λ (o : Offer). nat_eq o.exporter.0 who.0) offers

-- the port of a participant's offer
abbrev pub offered_port : List Offer → Pid → PortNo
offered_port offers who = option_map_or (λ (o : Offer). o.port) (find (λ (o : Offer). nat_eq o.exporter.0 who.0) offers) (record { 0 = 0 })

-- a participant's offer is a hole
abbrev pub offered_hole : List Offer → Pid → Bool
offered_hole offers who = option_map_or (λ (o : Offer). o.hole) (find (λ (o : Offer). nat_eq o.exporter.0 who.0) offers) false

-- the same by a part of a kept signature: its offers stand for the exporters, its best for the best route's participant,
-- and an offer's port and hole for the route's
abbrev pub part_answer : Policies → Part → Headers → List Leaving
part_answer ps p h = answer_by ps p.sender (is_offered p.offers) (offered_hole p.offers) p.best (offered_port p.offers) h
