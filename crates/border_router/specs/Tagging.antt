-- The frame that a router makes of a datagram.
use Rattle.std.specs.Prelude.{◌≡◌, ℕ, List, length, Option, Some, None, IsTrue}
use Rattle.std.specs.Option.{option_and_then}
use Rattle.std.specs.FinMap.{get, keys}
use Rattle.net_types.specs.Frames.{destination, has_headers, framed}
use Rattle.net_types.specs.Routes.{longest_of}
use Rattle.net_types.specs.declared.address.Ip.{Ip}
use Rattle.net_types.specs.declared.address.Mac.{Mac}
use Rattle.net_types.specs.declared.prefix.Prefix.{Prefix}
use Rattle.border_router.specs.Known.{Known}

-- the datagram has headers, whatever the MACs of its frame are
pub record HasHeaders (datagram : List ℕ) : Type 0 where
  pub to : Mac
  pub from : Mac
  pub to_six : length to.0 ≡ 6
  pub from_six : length from.0 ≡ 6
  pub has : IsTrue (has_headers (framed to from datagram))

-- the longest prefix that covers an address, of those that have a next hop
abbrev pub prefix_to : Known → Ip → Option Prefix
prefix_to k d = longest_of (keys k.next_hops) d

-- the next hop of that prefix
abbrev pub next_hop_to : Known → Ip → Option Ip
next_hop_to k d = option_and_then (get k.next_hops) (prefix_to k d)

-- the longest prefix that covers an address has a next hop whose MAC isn't known
pub record IsUnresolved (k : Known) (d ip : Ip) : Type 0 where
  pub next_hop : next_hop_to k d ≡ Some ip
  pub unknown : get k.resolved ip ≡ None

-- the datagram goes from the router's MAC to that of the next hop of the longest prefix that covers its destination
pub record IsTagged (k : Known) (datagram frame : List ℕ) : Type 0 where
  pub ip : Ip
  pub mac : Mac
  pub next_hop : next_hop_to k (destination datagram) ≡ Some ip
  pub known : get k.resolved ip ≡ Some mac
  pub is : frame ≡ framed mac k.mac datagram
