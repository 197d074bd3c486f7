-- The ports of a participant, and the prefixes that have a tag.
use Rattle.std.proofs.Common.{◌≡◌, true, filter, nat_eq, sym, ap, ◌∙◌}
use Rattle.std.specs.Prelude.{Some}
use Rattle.std.specs.FinMap.{get}
use Rattle.std.proofs.lemmas.Bool.{eqb-true}
use Rattle.events.specs.State.{State, port_of}
use Rattle.events.specs.Tags.{same_tag}
use Rattle.exchange_laws.proofs.Sames.{tag_itself, tag_same}
use Rattle.fast_path.specs.LiveOnly.{has_prefix, registered}
use Rattle.net_types.proofs.FindLemmas.{find-IsFound}
use Rattle.net_types.proofs.OrderLemmas.{prefixes_total}
use Rattle.net_types.proofs.RisingLemmas.{Member-filter, filter-Member}
use Rattle.net_types.proofs.SameLemmas.{nat_itself}
use Rattle.net_types.proofs.SetLemmas.{Member-map, map-Member}
use Rattle.net_types.proofs.ValueLemmas.{any_value, value_at}
use Rattle.net_types.specs.Keys.{prefix_cmp}
use Rattle.net_types.specs.Sets.{Member}
use Rattle.net_types.specs.declared.address.Pid.{Pid}
use Rattle.net_types.specs.declared.address.PortNo.{PortNo}
use Rattle.net_types.specs.declared.address.Tag.{Tag}
use Rattle.net_types.specs.declared.prefix.Prefix.{Prefix}
use Rattle.net_types.specs.declared.route.PortInfo.{PortInfo}
use Rattle.registry.specs.Registered.{ports_of}
use Rattle.block_build.proofs.OfferLemmas.{pid_exact}
pub use Rattle.net_types.proofs.TieLemmas.{pair_tie as tie}

-- ---- ports

-- a port of a participant
pub record IsPortOf (s : State) (who : Pid) (n : PortNo) : Type 0 where
  pub port : PortInfo
  pub stands : Member port s.routing.ports
  pub owner : port.owner ≡ who
  pub number : n ≡ port.number

pub port_listed : (s : State) (who : Pid) (n : PortNo) → Member n (ports_of (registered s) who) → IsPortOf s who n
port_listed s who n m =
    let image = map-Member (λ (q : PortInfo). q.number) (filter (λ (q : PortInfo). nat_eq q.owner.0 who.0) s.routing.ports) n m in
    let left = filter-Member (λ (q : PortInfo). nat_eq q.owner.0 who.0) s.routing.ports image.of image.stands in
    record { port = image.of; stands = left.stands; owner = pid_exact image.of.owner who left.passes; number = image.is }

pub number_listed : (s : State) (q : PortInfo) → Member q s.routing.ports → Member q.number (ports_of (registered s) q.owner)
number_listed s q m =
    Member-map (λ (x : PortInfo). x.number) (filter (λ (x : PortInfo). nat_eq x.owner.0 q.owner.0) s.routing.ports) q
    (Member-filter (λ (x : PortInfo). nat_eq x.owner.0 q.owner.0) s.routing.ports q m (nat_itself q.owner.0))

-- the port that is found by a number has it
pub found_number : (s : State) (n : PortNo) (q : PortInfo) → port_of s n ≡ Some q → n ≡ q.number
found_number s n q at = λ i. record { 0 = sym (eqb-true q.number.0 n.0 (find-IsFound (λ (x : PortInfo). nat_eq x.number.0 n.0) s.routing.ports q at).passes) i }

-- ---- tags that prefixes have

-- a prefix with the tag
pub record HasTag (s : State) (t : Tag) : Type 0 where
  pub prefix : Prefix
  pub tagged : get s.tag prefix ≡ Some t

pub prefix_with : (s : State) (t : Tag) → has_prefix s t ≡ true → HasTag s t
prefix_with s t has =
    let v = value_at prefix_cmp prefixes_total (same_tag t) s.tag has in
    record { prefix = v.key; tagged = v.there ∙ ap Some (sym (tag_same t v.value v.passes)) }

pub has_prefix_of : (s : State) (p : Prefix) (t : Tag) → get s.tag p ≡ Some t → has_prefix s t ≡ true
has_prefix_of s p t is = any_value prefix_cmp prefixes_total (same_tag t) s.tag p t is (tag_itself t)
