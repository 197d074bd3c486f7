-- Updates that have the form of what a message may say (this exchange's own rule).
use Rattle.std.specs.Prelude.{◌≡◌, ◌<◌, ◌≤◌, false, List, [], ◌∷◌, length, Option, Some, None}
use Rattle.net_types.specs.AttributeTypes.{type_of}
use Rattle.net_types.specs.Sets.{Each, IsRising, Member}
use Rattle.net_types.specs.UpdateSpelling.{is_before, is_type_before}
use Rattle.net_types.specs.declared.address.Ip.{Ip}
use Rattle.net_types.specs.declared.prefix.Prefix.{Prefix}
use Rattle.net_types.specs.declared.route.Aggregator.{Aggregator}
use Rattle.net_types.specs.declared.route.Attrs.{Attrs}
use Rattle.net_types.specs.declared.route.Segment.{Segment}
use Rattle.net_types.specs.declared.route.Unknown.{Unknown}
use Rattle.net_types.specs.declared.update.Update.{Update}
use Rattle.net_types.specs.Paths.{asns as asns_of}

-- a segment has 1 to 255 AS numbers, of four octets at most
pub record IsSoundSegment (s : Segment) : Type 0 where
  pub some : 1 ≤ length (asns_of s)
  pub few : length (asns_of s) ≤ 255
  pub asns : Each (λ n. n < 4294967296) (asns_of s)

-- a next hop's first octet is neither 0 nor above 223
pub record IsSoundNextHop (ip : Ip) : Type 0 where
  pub low : 16777216 ≤ ip.0
  pub high : ip.0 < 3758096384

-- an aggregator's AS has two octets
abbrev pub IsSoundAggregator : Option Aggregator → Type 0
IsSoundAggregator None = Unit {0}
IsSoundAggregator (Some a) = a.asn < 65536

-- attributes that some message says
pub record AreSoundAttrs (a : Attrs) : Type 0 where
  pub origin : a.origin ≤ 2
  pub path : Each IsSoundSegment a.path
  pub next_hop : IsSoundNextHop a.next_hop
  pub aggregator : IsSoundAggregator a.aggregator
  pub partial : a.communities ≡ [] → a.communities_partial ≡ false
  pub rising : IsRising is_type_before a.unknown
  pub unknown : Each (λ (u : Unknown). type_of u.kind ≡ None) a.unknown

-- there are attributes exactly where a prefix is announced
abbrev pub HasSoundAttrs : List Prefix → Option Attrs → Type 0
HasSoundAttrs [] None = Unit {0}
HasSoundAttrs [] (Some a) = ⊥
HasSoundAttrs (p ∷ ps) None = ⊥
HasSoundAttrs (p ∷ ps) (Some a) = AreSoundAttrs a

-- an update that has the form of what messages spell: lists that rise, and no prefix both ways
pub record IsSoundUpdate (u : Update) : Type 0 where
  pub announced : IsRising is_before u.announced
  pub withdrawn : IsRising is_before u.withdrawn
  pub apart : (p : Prefix) → Member p u.withdrawn → Member p u.announced → ⊥
  pub attrs : HasSoundAttrs u.announced u.attrs
