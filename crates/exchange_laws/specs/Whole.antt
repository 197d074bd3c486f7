-- What is so of the parts that are kept, so that rules can be built of them (this exchange's own rule).
use Rattle.std.specs.Prelude.{◌≡◌, ℕ, ◌<◌, true, List, length, map, Some}
use Rattle.std.specs.FinMap.{get}
use Rattle.events.specs.State.{State}
use Rattle.net_types.specs.Answers.{is_offered}
use Rattle.net_types.specs.Exports.{Routing, route}
use Rattle.net_types.specs.Sets.{HasNoRepeats, Member}
use Rattle.net_types.specs.Signatures.{signature}
use Rattle.net_types.specs.declared.address.Pid.{Pid}
use Rattle.net_types.specs.declared.address.Tag.{Tag}
use Rattle.net_types.specs.declared.prefix.Prefix.{Prefix}
use Rattle.net_types.specs.declared.route.Attrs.{Attrs}
use Rattle.net_types.specs.declared.route.Offer.{Offer}
use Rattle.net_types.specs.declared.route.Part.{Part}

-- Among so many participants, the sender of a part and all exporters of its offers are declared, each exporter offers once,
-- and the best one is among them.
pub record IsWhole (count : ℕ) (part : Part) : Type 0 where
  pub sender : part.sender.0 < count
  pub exporters : (o : Offer) → Member o part.offers → o.exporter.0 < count
  pub once : HasNoRepeats (map (λ (o : Offer). o.exporter.0) part.offers)
  pub best : is_offered part.offers part.best ≡ true

-- so it is of each part of each signature that is kept
abbrev pub KeptAreWhole : State → Type 0
KeptAreWhole s = (t : Tag) (sig : List Part) → get s.kept t ≡ Some sig → (part : Part) → Member part sig → IsWhole (length s.routing.participants) part

-- each route is a declared participant's
abbrev pub RoutesAreDeclared : Routing → Type 0
RoutesAreDeclared r = (who : Pid) (p : Prefix) (attrs : Attrs) → route r who p ≡ Some attrs → who.0 < length r.participants

-- the parts of signatures are so
abbrev pub SignaturesAreWhole : Type 0
SignaturesAreWhole = (r : Routing) (p : Prefix) (part : Part) → Member part (signature r p) → IsWhole (length r.participants) part
