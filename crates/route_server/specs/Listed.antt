-- Which prefixes are listed as announced by which participant.
use Rattle.std.specs.Prelude.{◌≡◌, ℕ, true, is_some, List, [], slice_get}
use Rattle.std.specs.Option.{option_map_or}
use Rattle.std.specs.FinMap.{FinMap, get}
use Rattle.net_types.specs.Keys.{RouteKey, prefix_cmp, route_cmp}
use Rattle.net_types.specs.Sets.{IsRising, Member}
use Rattle.net_types.specs.UpdateSpelling.{is_before}
use Rattle.net_types.specs.declared.address.Pid.{Pid}
use Rattle.net_types.specs.declared.prefix.Prefix.{Prefix}
use Rattle.net_types.specs.declared.route.Attrs.{Attrs}
use Rattle.route_server.specs.Served.{route_in}
use Rattle.route_server.specs.declared.announced.Announced.{Announced}
use Rattle.route_server.specs.declared.announced.Listing.{Listing}
use Rattle.route_server.specs.declared.held.Held.{Held}

-- the list at a place
abbrev pub list_at : List Listing → ℕ → List Prefix
list_at lists n = option_map_or (λ (l : Listing). l.prefixes.items) (slice_get lists n) []

-- a prefix is in a participant's list, or the lists aren't whole
abbrev pub Lists : Announced → ℕ → Prefix → Type 0
Lists a n p = a.whole ≡ true → Member p (list_at a.lists.items n)

-- what was listed is listed
abbrev pub StayListed : Announced → Announced → Type 0
StayListed a b = (n : ℕ) (p : Prefix) → Lists a n p → Lists b n p

-- the prefixes of all routes are listed
abbrev pub AreListed : FinMap prefix_cmp (List Held) → Announced → Type 0
AreListed rows a = (k : RouteKey) → is_some (route_in rows k) ≡ true → Lists a k.from.0 k.prefix

-- ascending prefixes, among them those of a participant's routes
pub record StandAmong (routes : FinMap route_cmp Attrs) (from : Pid) (ps : List Prefix) : Type 0 where
  pub rising : IsRising is_before ps
  pub all : (p : Prefix) → is_some (get routes (record { from = from; prefix = p })) ≡ true → Member p ps
