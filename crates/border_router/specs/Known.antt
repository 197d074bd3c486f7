-- What a router knows, and what it is seen as.
use Rattle.std.specs.Prelude.{ℕ, Bool, List, filter, is_none}
use Rattle.std.specs.FinMap.{FinMap, get, values}
use Rattle.net_types.specs.Keys.{prefix_cmp, ip_cmp}
use Rattle.net_types.specs.Maps.{ordered}
use Rattle.net_types.specs.declared.address.Ip.{Ip}
use Rattle.net_types.specs.declared.address.Mac.{Mac}

-- the MACs of addresses, and how many new addresses go in without memory
pub record Stations : Type 0 where
  pub map : FinMap ip_cmp Mac
  pub room : ℕ

-- a router's own addresses, the next hops that it was told of prefixes, and the MACs that it was told of addresses
pub record Known : Type 0 where
  pub mac : Mac
  pub ip : Ip
  pub next_hops : FinMap prefix_cmp Ip
  pub resolved : FinMap ip_cmp Mac

-- what a router knows, and how many new prefixes and new addresses it hears of without memory
pub record Seen : Type 0 where
  pub known : Known
  pub prefixes : ℕ
  pub addresses : ℕ

-- no MAC is known of an address
abbrev pub is_unresolved : Known → Ip → Bool
is_unresolved k ip = is_none (get k.resolved ip)

-- the next hops whose MACs aren't known, ascending, each once
abbrev pub asked : Known → List Ip
asked k = ordered ip_cmp (filter (is_unresolved k) (values k.next_hops))
