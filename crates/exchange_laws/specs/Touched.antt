-- All that a change of routes brings is found among the prefixes at which the routings differ (this exchange's own rule).
use Rattle.std.specs.Prelude.{◌≡◌, ◌<◌, true, false, ◌&&◌, not, List, length, map, filter, Some, is_some}
use Rattle.std.specs.FinMap.{get}
use Rattle.events.specs.Fits.{tag_changes}
use Rattle.events.specs.State.{State, port_of, present}
use Rattle.net_types.specs.Maps.{each_once}
use Rattle.events.specs.Tags.{Group, group_of, groups, is_carried, is_changed, is_live_pair, new_tag, retagged, same_group, same_tag}
use Rattle.events.specs.declared.TagChange.{TagChange}
use Rattle.exchange_laws.specs.Rules.{IsDeclaredAlike, IsTagged, OwnersAreDeclared}
use Rattle.net_types.specs.Attributes.{same_option}
use Rattle.net_types.specs.Changes.{AreTouched}
use Rattle.net_types.specs.Exports.{Routing}
use Rattle.net_types.specs.Routes.{best}
use Rattle.net_types.specs.Sets.{Member}
use Rattle.net_types.specs.declared.address.Pid.{Pid}
use Rattle.net_types.specs.declared.prefix.Prefix.{Prefix}
use Rattle.net_types.specs.declared.route.PortInfo.{PortInfo}
use Rattle.net_types.specs.declared.rule.Pair.{Pair}

-- the groups of the changed ones among these prefixes, by their first places
abbrev pub groups_among : State → Routing → List Prefix → List Group
groups_among s r ps = each_once same_group (map (group_of s r) (filter (λ p. is_carried r p && is_changed s r p) ps))

-- those of these prefixes whose tag is another one, in order
abbrev pub tag_changes_among : State → Routing → List Prefix → List TagChange
tag_changes_among s r ps = map (λ p. record { prefix = p; tag = new_tag s r p }) (filter (λ p. not (same_option same_tag (get s.tag p) (new_tag s r p))) ps)

-- the routings differ at exactly these prefixes, and the same is declared
pub record IsTouching (s : State) (r : Routing) (ps : List Prefix) : Type 0 where
  pub tagged : IsTagged s
  pub owners : OwnersAreDeclared s.routing
  pub alike : IsDeclaredAlike s.routing r
  pub touched : AreTouched s.routing r ps

-- the groups are those of the touched prefixes
abbrev pub TouchedHaveGroups : Type 0
TouchedHaveGroups = (s : State) (r : Routing) (ps : List Prefix) → IsTouching s r ps → groups s r ≡ groups_among s r ps

-- the tags that are others are those of touched prefixes
abbrev pub TouchedHaveChanges : Type 0
TouchedHaveChanges = (s : State) (r : Routing) (ps : List Prefix) → IsTouching s r ps → tag_changes s.tag (retagged s r).tag ≡ tag_changes_among s r ps

-- any other prefix keeps its tag, or has none as before
abbrev pub OthersKeepTags : Type 0
OthersKeepTags =
    (s : State) (r : Routing) (ps : List Prefix) → IsTouching s r ps → (p : Prefix) → (Member p ps → ⊥) → get (retagged s r).tag p ≡ get s.tag p

-- and what is present of it for a participant is the same
abbrev pub OthersStayPresent : Type 0
OthersStayPresent =
    (s : State) (r : Routing) (ps : List Prefix) → IsTouching s r ps → (p : Prefix) (who : Pid) → who.0 < length s.routing.participants → (Member p ps → ⊥)
    → get (present (retagged s r) who) p ≡ get (present s who) p

-- a pair is live in the state because one of the prefixes has its tag, and its port's owner a best route for the prefix
pub record IsLiveBy (s : State) (ps : List Prefix) (pair : Pair) : Type 0 where
  pub port : PortInfo
  pub prefix : Prefix
  pub at : port_of s pair.port ≡ Some port
  pub stands : Member prefix ps
  pub tagged : get s.tag prefix ≡ Some pair.tag
  pub routed : is_some (best s.routing port.owner prefix) ≡ true

-- a pair that becomes live is so by a touched prefix
abbrev pub NewPairsAreTouched : Type 0
NewPairsAreTouched =
    (s : State) (r : Routing) (ps : List Prefix) → IsTouching s r ps → (pair : Pair) → is_live_pair s pair ≡ false → is_live_pair (retagged s r) pair ≡ true
    → IsLiveBy (retagged s r) ps pair

-- and one that is live no more was so by a touched prefix
abbrev pub GonePairsAreTouched : Type 0
GonePairsAreTouched =
    (s : State) (r : Routing) (ps : List Prefix) → IsTouching s r ps → (pair : Pair) → is_live_pair s pair ≡ true → is_live_pair (retagged s r) pair ≡ false
    → IsLiveBy s ps pair
