-- What is kept of the owners of ports.
use Rattle.std.specs.Prelude.{◌≡◌, ℕ, nat_eq, List, [], map, filter, find, slice_get, Option, Some, None}
use Rattle.std.specs.List.{IsDistinct}
use Rattle.std.specs.Option.{option_map_or, option_and_then}
use Rattle.net_types.specs.declared.address.PortNo.{PortNo}
use Rattle.net_types.specs.declared.route.PortInfo.{PortInfo}
use Rattle.registry.specs.declared.owners.Owned.{Owned}

-- the numbers that are kept at a place
abbrev pub numbers_at : List Owned → ℕ → List PortNo
numbers_at os n = option_map_or (λ (o : Owned). o.numbers.items) (slice_get os n) []

-- the first port that is kept at a place
abbrev pub first_at : List Owned → ℕ → Option PortInfo
first_at os n = option_and_then (λ (o : Owned). o.first) (slice_get os n)

-- the first one stays the first
abbrev pub first_of : Option PortInfo → PortInfo → Option PortInfo
first_of None p = Some p
first_of (Some q) p = Some q

-- for each place the ports of its participant are kept
pub record AreOwners (os : List Owned) (ps : List PortInfo) : Type 0 where
  pub numbers : (n : ℕ) → numbers_at os n ≡ map (λ (q : PortInfo). q.number) (filter (λ (q : PortInfo). nat_eq q.owner.0 n) ps)
  pub first : (n : ℕ) → first_at os n ≡ find (λ (q : PortInfo). nat_eq q.owner.0 n) ps

-- the numbers, addresses and hardware addresses stand where their ports stand, no address twice
pub record IsIndexed (ps : List PortInfo) (numbers addresses : List ℕ) (macs : List (List ℕ)) (os : List Owned) : Type 0 where
  pub numbers_are : numbers ≡ map (λ (q : PortInfo). q.number.0) ps
  pub addresses_are : addresses ≡ map (λ (q : PortInfo). q.ip.0) ps
  pub macs_are : macs ≡ map (λ (q : PortInfo). q.mac.0) ps
  pub distinct : IsDistinct nat_eq addresses
  pub owners : AreOwners os ps
