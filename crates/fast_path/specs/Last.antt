-- Rules that were built last, and the parts that have the same.
use Rattle.std.specs.Prelude.{◌≡◌, ◌<◌, List, length, Option, Some, None, slice_get}
use Rattle.block_build.specs.Lent.{Lent, inbound_at, outbound_at}
use Rattle.block_build.specs.Right.{IsRightAnywhere}
use Rattle.block_build.specs.Views.{Viewed, inbound_of}
use Rattle.exchange_laws.specs.Whole.{IsWhole}
use Rattle.fast_path.specs.Committing.{Block}
use Rattle.fast_path.specs.declared.last.Last.{Last}
use Rattle.fast_path.specs.declared.last.Lasts.{Lasts}
use Rattle.net_types.specs.Sets.{Member}
use Rattle.net_types.specs.declared.route.Offer.{Offer}
use Rattle.net_types.specs.declared.route.Part.{Part}
use Rattle.net_types.specs.declared.rule.Rule.{Rule}

-- the rules are right for the part at every port, by a view of the classifiers
pub record IsRightByViews (all : List Lent) (part : Part) (rules : List Rule) : Type 0 where
  pub view : Viewed
  pub outbound : view.outbound ≡ outbound_at all part.sender
  pub inbound : (o : Offer) → Member o part.offers → inbound_of view o.exporter ≡ inbound_at all o.exporter
  pub right : IsRightAnywhere view part rules

-- the parts have the same offers, and their senders the same rules
pub record IsAlike (all : List Lent) (one other : Part) : Type 0 where
  pub best : one.best ≡ other.best
  pub offers : one.offers ≡ other.offers
  pub outbound : outbound_at all one.sender ≡ outbound_at all other.sender

-- the rules at the place were built for the part, which is whole, and they are right for it at every port
pub record IsBuilt (all : List Lent) (blocks : List Block) (last : Last) : Type 0 where
  pub whole : IsWhole (length all) last.part
  pub within : last.place < length blocks
  pub right : (block : Block) → slice_get blocks last.place ≡ Some block → IsRightByViews all last.part block.1

-- so it is where there is such a place
abbrev pub IsLast : List Lent → List Block → Option Last → Type 0
IsLast all blocks None = Unit {0}
IsLast all blocks (Some last) = IsBuilt all blocks last

-- so it is with both places
pub record AreLast (all : List Lent) (blocks : List Block) (lasts : Lasts) : Type 0 where
  pub few : IsLast all blocks lasts.few
  pub many : IsLast all blocks lasts.many
