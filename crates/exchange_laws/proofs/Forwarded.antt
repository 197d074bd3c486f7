-- What the table makes of a datagram by a tag that was told, where that tag is still the prefix's.
use Rattle.std.proofs.Common.{◌≡◌, ℕ, ◌<◌, ◌^◌, Bool, true, nat_eq, List, length, sym, ap, subst, ◌∙◌, refl}
use Rattle.std.specs.Prelude.{Some, find, slice_index}
use Rattle.std.specs.FinMap.{get}
use Rattle.std.proofs.lemmas.Bool.{eqb-true}
use Rattle.events.proofs.Routed.{valid_headers}
use Rattle.exchange_laws.proofs.Answering.{routed}
use Rattle.events.specs.Fits.{IsForwarded, bare, by_table, tagged_frame}
use Rattle.events.specs.Refusals.{is_datagram}
use Rattle.events.specs.State.{State, port_of, told_to}
use Rattle.events.specs.declared.Entry.{Entry}
use Rattle.events.specs.declared.Head.TheVariants.{Fine}
use Rattle.exchange_laws.proofs.Framing.{tag_at-framed, tagged_headers}
use Rattle.exchange_laws.specs.Steady.{HavePassed, IsSteady}
use Rattle.net_types.proofs.FindLemmas.{find-IsFound}
use Rattle.net_types.proofs.PassLemmas.{some_there}
use Rattle.net_types.specs.Routes.{best}
use Rattle.net_types.specs.declared.address.PortNo.{PortNo}
use Rattle.net_types.specs.declared.prefix.Prefix.{Prefix}
use Rattle.net_types.specs.declared.route.PortInfo.{PortInfo}

-- a port has the number
abbrev pub numbered : PortNo → PortInfo → Bool
numbered n q = nat_eq q.number.0 n.0

-- a port that is found has the number
pub same_number : (qs : List PortInfo) (port : PortNo) (q : PortInfo) → find (numbered port) qs ≡ Some q → q.number ≡ port
same_number qs port q found = λ i. record { 0 = eqb-true q.number.0 port.0 (find-IsFound (numbered port) qs q found).passes i }

-- the owner of a declared port is declared
pub owner_below : {s : State} → IsSteady s → (port : PortNo) (q : PortInfo) → port_of s port ≡ Some q → q.owner.0 < length s.routing.participants
owner_below {s} steady port q found = steady.owners q (find-IsFound (numbered port) s.routing.ports q found).stands

-- what the table makes of a datagram by the tag that was told is right
pub forwarded : (s : State) → IsSteady s → (port : PortNo) (q : PortInfo) → port_of s port ≡ Some q → (bytes : List ℕ) → length q.mac.0 ≡ 6 → port.0 < 2 ^ 16 → is_datagram bytes ≡ true
    → (p : Prefix) (told : Entry) → get (told_to s q.owner) p ≡ Some told → ((k : ℕ) → slice_index (tagged_frame q told.tag bytes) k < 256)
    → IsForwarded s q bytes p told (record (bare Fine) { frames = by_table s q (tagged_frame q told.tag bytes) })
forwarded s steady port q found bytes six_from low_port datagram p told has octets = record {
  by_table = refl;
  by_routes = λ tagged routes.
      let frame : List ℕ = tagged_frame q told.tag bytes in
      let at : port_of s q.number ≡ Some q = ap (port_of s) (same_number s.routing.ports port q found) ∙ found in
      let c = some_there (best s.routing q.owner p) routes in
      let k = tagged_headers q told.tag bytes six_from datagram in
      let passed : HavePassed s = steady.policies in
      routed s steady.sound steady.hops passed.policies passed.read passed.passed q at (owner_below steady port q found) p told has tagged c.0 c.1 frame k.0 k.1
      (valid_headers q.number frame k.0 (subst (λ (x : PortNo). x.0 < 2 ^ 16) (sym (same_number s.routing.ports port q found)) low_port) octets k.1)
      (tag_at-framed told.tag q.mac bytes);
}
