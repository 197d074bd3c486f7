-- What the parts of an UPDATE message say, whatever order they stand in (RFC 4271 4.3; RFC 1997; RFC 6793 4.2.3).
use Rattle.std.specs.Prelude.{ℕ, Bool, true, false, not, ◌&&◌, ◌==◌, List, [], ◌∷◌, ◌++◌, length, Option, Some, None}
use Rattle.std.specs.List.{fold}
use Rattle.std.specs.Option.{option_map}
use Rattle.net_types.specs.Paths.{whole_path}
use Rattle.net_types.specs.declared.address.Ip.{Ip}
use Rattle.net_types.specs.declared.attribute.Attribute.{Attribute}
use Rattle.net_types.specs.declared.attribute.Attribute.TheVariants.{Origin, AsPath, NextHop, MultiExitDisc, LocalPref, AtomicAggregate, Communities, As4Path, Ignored}
use Rattle.net_types.specs.declared.attribute.Attribute.TheVariants as attributes
use Rattle.net_types.specs.declared.route.Aggregator.{Aggregator}
use Rattle.net_types.specs.declared.route.Segment.{Segment}
use Rattle.net_types.specs.declared.route.Unknown.{Unknown}

-- what attributes say, whichever of them are there
pub record Said : Type 0 where
  pub origin : Option ℕ
  pub path : Option (List Segment)
  pub wide : Option (List Segment)
  pub next_hop : Option Ip
  pub med : Option ℕ
  pub atomic : Bool
  pub aggregator : Option Aggregator
  pub communities : List ℕ
  pub communities_partial : Bool
  pub unknown : List Unknown

-- no attribute has come
abbrev pub nothing_said : Said
nothing_said = record { origin = None; path = None; wide = None; next_hop = None; med = None; atomic = false; aggregator = None; communities = []; communities_partial = false; unknown = [] }

-- one attribute more: LOCAL_PREF and the ones that are ignored say nothing; no communities have no partial mark
abbrev pub with_attribute : Said → Attribute → Said
with_attribute s (Origin n) = record s { origin = Some n }
with_attribute s (AsPath segments) = record s { path = Some segments }
with_attribute s (NextHop ip) = record s { next_hop = Some ip }
with_attribute s (MultiExitDisc n) = record s { med = Some n }
with_attribute s LocalPref = s
with_attribute s AtomicAggregate = record s { atomic = true }
with_attribute s (attributes.Aggregator a) = record s { aggregator = Some a }
with_attribute s (Communities partial ns) = record s { communities = ns; communities_partial = partial && not (length ns == 0) }
with_attribute s (As4Path segments) = record s { wide = Some segments }
with_attribute s (attributes.Unknown u) = record s { unknown = s.unknown ++ u ∷ [] }
with_attribute s (Ignored number) = s

-- what attributes say together
abbrev pub said : List Attribute → Said
said all = fold with_attribute nothing_said all

-- the path that AS_PATH and AS4_PATH say together, where there is an AS_PATH
abbrev pub said_path : Said → Option (List Segment)
said_path s = option_map (λ path. whole_path path s.wide) s.path
