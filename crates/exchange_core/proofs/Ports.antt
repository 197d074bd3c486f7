-- Ports by their numbers and places.
use Rattle.std.proofs.Common.{◌≡◌, ℕ, zero, suc, ◌+◌, ◌≤◌, Bool, true, false, cond, List, [], ◌∷◌, ap, ◌∙◌, refl, arith}
use Rattle.std.specs.Prelude.{Some, None, find, slice_get}
use Rattle.std.specs.List.{position_from}
use Rattle.events.specs.Resolving.{port_place}
use Rattle.events.specs.State.{State, port_of}
use Rattle.net_types.specs.declared.address.PortNo.{PortNo}
use Rattle.net_types.specs.declared.route.PortInfo.{PortInfo}
use Rattle.exchange_laws.proofs.Forwarded.{numbered, same_number}

position_above : {X : Type 0} (test : X → Bool) (low : ℕ) (xs : List X) (n : ℕ) → position_from test low xs ≡ Some n → low ≤ n
position_above test low [] n e = absurd (cc)
position_above test low (x ∷ xs) n e =
    elim (test x) as (λ b. cond b (Some low) (position_from test (low + 1) xs) ≡ Some n → low ≤ n) [
      | true ↦ λ is. let same : low ≡ n = cc in omega arith
      | false ↦ λ is. let later : low + 1 ≤ n = position_above test (low + 1) xs n is in omega arith
    ] e

-- what is found stands at its place
pub found_at : {X : Type 0} (test : X → Bool) (low : ℕ) (xs : List X) (n : ℕ) → position_from test low xs ≡ Some n → (k : ℕ) → n ≡ low + k → find test xs ≡ slice_get xs k
found_at test low [] n e k place = absurd (cc)
found_at test low (x ∷ xs) n e k place =
    elim (test x) as (λ b. cond b (Some low) (position_from test (low + 1) xs) ≡ Some n → cond b (Some x) (find test xs) ≡ slice_get (x ∷ xs) k) [
      | true ↦ λ is. let same : low ≡ n = cc in first k (omega arith)
      | false ↦ λ is. later k (position_above test (low + 1) xs n is) (found_at test (low + 1) xs n is) place
    ] e
  where
    first : (k : ℕ) → k ≡ 0 → Some x ≡ slice_get (x ∷ xs) k
    first zero e = refl
    first (suc k) e = absurd (omega arith)

    later : (k : ℕ) → low + 1 ≤ n → ((j : ℕ) → n ≡ low + 1 + j → find test xs ≡ slice_get xs j) → n ≡ low + k → find test xs ≡ slice_get (x ∷ xs) k
    later zero le rest at = absurd (omega arith)
    later (suc k) le rest at = rest k (omega arith)

pub found_nowhere : {X : Type 0} (test : X → Bool) (low : ℕ) (xs : List X) → position_from test low xs ≡ None → find test xs ≡ None
found_nowhere test low [] e = refl
found_nowhere test low (x ∷ xs) e =
    elim (test x) as (λ b. cond b (Some low) (position_from test (low + 1) xs) ≡ None → cond b (Some x) (find test xs) ≡ None) [
      | true ↦ λ is. absurd (cc)
      | false ↦ λ is. found_nowhere test (low + 1) xs is
    ] e

-- what is read where there is no port
abbrev pub no_port : PortInfo
no_port = record { owner = record { 0 = 0 }; number = record { 0 = 0 }; ip = record { 0 = 0 }; mac = record { 0 = [] } }

pub port_at : (s : State) (port : PortNo) (place : ℕ) (q : PortInfo) → port_place s port ≡ Some place → slice_get s.routing.ports place ≡ Some q → port_of s port ≡ Some q
port_at s port place q at here = found_at (numbered port) 0 s.routing.ports place at place (omega arith) ∙ here

pub own_place : (s : State) (port : PortNo) (place : ℕ) (q : PortInfo) → port_place s port ≡ Some place → slice_get s.routing.ports place ≡ Some q → port_place s q.number ≡ Some place
own_place s port place q at here = ap (port_place s) (same_number s.routing.ports port q (port_at s port place q at here)) ∙ at
