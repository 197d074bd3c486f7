-- The best route of a participant for a prefix (RFC 4271 9.1.2.2), and the longest prefix that has one.
use Rattle.std.specs.Prelude.{ℕ, zero, suc, ◌+◌, ◌||◌, not, nat_eq, nat_le, nat_lt, List, [], ◌∷◌, length, map, filter, slice_get, find, Option, Some, None, is_some, sum_by, unwrap_or, if◌then◌else◌}
use Rattle.std.specs.List.{list_all, filter_map}
use Rattle.std.specs.Option.{option_and_then, option_map_or}
use Rattle.std.specs.FinMap.{keys}
use Rattle.net_types.specs.Exports.{Routing, route, is_given, asn_of}
use Rattle.net_types.specs.Keys.{RouteKey}
use Rattle.net_types.specs.Paths.{hops_of}
use Rattle.net_types.specs.Prefixes.{covers}
use Rattle.net_types.specs.declared.address.Ip.{Ip}
use Rattle.net_types.specs.declared.address.Pid.{Pid}
use Rattle.net_types.specs.declared.prefix.Prefix.{Prefix}
use Rattle.net_types.specs.declared.route.Attrs.{Attrs}
use Rattle.net_types.specs.declared.route.Participant.{Participant}
use Rattle.net_types.specs.declared.route.PortInfo.{PortInfo}

-- a route to choose from, with what the choice looks at
pub record Candidate : Type 0 where
  pub from : Pid
  pub attrs : Attrs
  pub hops : ℕ
  pub asn : ℕ
  pub id : Ip
  pub peer : Ip

-- the numbers from low on, as many as count
abbrev pub numbers : ℕ → ℕ → List ℕ
numbers low zero = []
numbers low (suc count) = low ∷ numbers (low + 1) count

-- the participants in order of declaration
abbrev pub pids : Routing → List Pid
pids r = map (λ n. record { 0 = n }) (numbers 0 (length r.participants))

-- the address of the first declared port
abbrev pub peer_of : Routing → Pid → Ip
peer_of r who = option_map_or (λ (q : PortInfo). q.ip) (find (λ (q : PortInfo). nat_eq q.owner.0 who.0) r.ports) (record { 0 = 0 })

-- the BGP identifier of a participant
abbrev pub id_of : Routing → Pid → Ip
id_of r who = option_map_or (λ (m : Participant). m.id) (slice_get r.participants who.0) (record { 0 = 0 })

-- a participant's route, with what the choice looks at
abbrev pub candidate : Routing → Pid → Attrs → Candidate
candidate r from attrs = record { from = from; attrs = attrs; hops = sum_by hops_of attrs.path; asn = asn_of r from; id = id_of r from; peer = peer_of r from }

-- the route of one participant, where it exports the prefix to another
abbrev pub given : Routing → Pid → Prefix → Pid → Option Candidate
given r to p from = option_and_then (λ (attrs : Attrs). if is_given r from to p attrs then Some (candidate r from attrs) else None) (route r from p)

-- the routes that are exported to a participant for a prefix, in order of declaration
abbrev pub candidates : Routing → Pid → Prefix → List Candidate
candidates r to p = filter_map (given r to p) (pids r)

-- those whose number is the least
abbrev pub least_by : (Candidate → ℕ) → List Candidate → List Candidate
least_by f cs = filter (λ c. list_all (λ d. nat_le (f c) (f d)) cs) cs

-- Those beside which no route of the same AS has a lower discriminator; an absent one counts as 0 (RFC 4271 9.1.2.2 c).
-- Routes of other ASes aren't compared: with 5 of AS 1, 0 of AS 2 and 3 of AS 1, the first alone goes.
abbrev pub least_med : List Candidate → List Candidate
least_med cs = filter (λ c. list_all (λ d. not (nat_eq c.asn d.asn) || nat_le (unwrap_or c.attrs.med 0) (unwrap_or d.attrs.med 0)) cs) cs

-- the first, where there is one
abbrev pub first_of_list : {X : Type 0} → List X → Option X
first_of_list [] = None
first_of_list (x ∷ xs) = Some x

-- The route that is left by five eliminations, each over what the one before left: fewest hops, lowest ORIGIN, no lower
-- discriminator of the same AS, lowest identifier, lowest peer address (RFC 4271 9.1.2.2 a, b, c, f, g).
abbrev pub best_of : List Candidate → Option Candidate
best_of cs = first_of_list (least_by (λ c. c.peer.0) (least_by (λ c. c.id.0) (least_med (least_by (λ c. c.attrs.origin) (least_by (λ c. c.hops) cs)))))

-- the best route of a participant for a prefix
abbrev pub best : Routing → Pid → Prefix → Option Candidate
best r to p = best_of (candidates r to p)

-- the longer one, the first where they are alike
abbrev pub longer : Option Prefix → Option Prefix → Option Prefix
longer None q = q
longer (Some p) None = Some p
longer (Some p) (Some q) = if nat_lt p.len q.len then Some q else Some p

-- the longest of the prefixes that cover an address
abbrev pub longest_of : List Prefix → Ip → Option Prefix
longest_of [] d = None
longest_of (p ∷ ps) d = longer (if covers p d then Some p else None) (longest_of ps d)

-- every prefix that somebody announced; one may come several times
abbrev pub announced : Routing → List Prefix
announced r = map (λ (k : RouteKey). k.prefix) (keys r.routes)

-- the longest prefix that covers an address and for which a participant has a best route
abbrev pub longest : Routing → Pid → Ip → Option Prefix
longest r to d = longest_of (filter (λ p. is_some (best r to p)) (announced r)) d
