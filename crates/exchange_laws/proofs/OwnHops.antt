-- Ports that differ: each is found by its number and by its address, and so a NEXT_HOP at a participant's port is its own.
use Rattle.std.proofs.Common.{◌≡◌, ℕ, zero, suc, ◌⊎◌, Bool, true, false, ◌&&◌, ◌||◌, nat_eq, List, [], ◌∷◌, ◌++◌, length, take, sym, ap, ◌∙◌, refl, inl, inr}
use Rattle.std.specs.Prelude.{Some, find, slice_get, slice_set}
use Rattle.std.specs.List.{list_any}
use Rattle.std.specs.Option.{option_map, option_map_or}
use Rattle.std.proofs.lemmas.Bool.{and_parts, eq-eqb, eqb-true, false_from_ne_true, or_left, or_right}
use Rattle.events.specs.Refusals.{has_next_hop, is_port_taken}
use Rattle.events.specs.Resolving.{is_in_pool}
use Rattle.events.specs.State.{State, port_of}
use Rattle.exchange_laws.proofs.Lists.{clash, place_of}
use Rattle.exchange_laws.specs.Steady.{PortsDiffer}
use Rattle.net_types.proofs.FindLemmas.{any_at, find-IsFound, slice_get-Member}
use Rattle.net_types.proofs.PassLemmas.{is_some-any, some_there}
use Rattle.net_types.proofs.WidthTests.{any_found}
use Rattle.net_types.specs.Octets.{same_octets}
use Rattle.net_types.specs.Sets.{Member}
use Rattle.net_types.specs.Signatures.{port_with}
use Rattle.net_types.specs.declared.address.Ip.{Ip}
use Rattle.net_types.specs.declared.address.Pid.{Pid}
use Rattle.net_types.specs.declared.route.PortInfo.{PortInfo}
use Rattle.std.proofs.lemmas.Option.{same_Some}

-- ---- lists

-- the only member that passes is found
pub find_only : {A : Type 0} (test : A → Bool) (xs : List A) (x : A) → Member x xs → test x ≡ true → ((y : A) → Member y xs → test y ≡ true → y ≡ x) → find test xs ≡ Some x
find_only test xs x m passes only =
    let there = some_there (find test xs) (is_some-any test xs ∙ any_at test xs x m passes) in
    let found = find-IsFound test xs there.0 there.1 in
    there.1 ∙ ap Some (only there.0 found.stands found.passes)

-- what stands in a list with one more member
pub get_last : {A : Type 0} (xs : List A) (x : A) (k : ℕ) (y : A) → slice_get (xs ++ x ∷ []) k ≡ Some y → (slice_get xs k ≡ Some y) ⊎ ((k ≡ length xs) × (x ≡ y))
get_last [] x zero y e = inr (refl, same_Some x y e)
get_last [] x (suc k) y e = absurd (cc)
get_last (z ∷ xs) x zero y e = inl e
get_last (z ∷ xs) x (suc k) y e = elim (get_last xs x k y e) [ inl there ↦ inl there | inr last ↦ inr (ap suc last.0, last.1) ]

-- a member of a list with another one at a place
pub Member_set : {A : Type 0} (xs : List A) (k : ℕ) (x y : A) → Member y (slice_set xs k x) → Member y xs ⊎ (y ≡ x)
Member_set [] k x y m = inl m
Member_set (z ∷ xs) zero x y (inl e) = inr e
Member_set (z ∷ xs) zero x y (inr m) = inl (inr m)
Member_set (z ∷ xs) (suc k) x y (inl e) = inl (inl e)
Member_set (z ∷ xs) (suc k) x y (inr m) = elim (Member_set xs k x y m) [ inl there ↦ inl (inr there) | inr here ↦ inr here ]

-- no member passes where none is found
pub none_passes : {A : Type 0} (test : A → Bool) (xs : List A) → list_any test xs ≡ false → (x : A) → Member x xs → test x ≡ false
none_passes test xs none x m = false_from_ne_true (test x) (λ is. clash (any_at test xs x m is) none)

-- ---- ports

module _ (ports : List PortInfo) (apart : PortsDiffer ports) where
  pub one_number : (p q : PortInfo) → Member p ports → Member q ports → p.number.0 ≡ q.number.0 → p ≡ q
  one_number p q m n same =
      let i = place_of ports p m in
      let j = place_of ports q n in
      same_Some p q (sym i.1 ∙ ap (slice_get ports) (apart.numbers i.0 j.0 p q i.1 j.1 same) ∙ j.1)

  pub one_address : (p q : PortInfo) → Member p ports → Member q ports → p.ip.0 ≡ q.ip.0 → p ≡ q
  one_address p q m n same =
      let i = place_of ports p m in
      let j = place_of ports q n in
      same_Some p q (sym i.1 ∙ ap (slice_get ports) (apart.addresses i.0 j.0 p q i.1 j.1 same) ∙ j.1)

  -- a port is the one of its number
  pub numbered_port : (q : PortInfo) (n : ℕ) → Member q ports → q.number.0 ≡ n → find (λ (x : PortInfo). nat_eq x.number.0 n) ports ≡ Some q
  numbered_port q n m is = find_only (λ (x : PortInfo). nat_eq x.number.0 n) ports q m (eq-eqb q.number.0 n is) (λ x stands e. one_number x q stands m (eqb-true x.number.0 n e ∙ sym is))

  -- and the one of its address
  pub addressed_port : (q : PortInfo) (n : ℕ) → Member q ports → q.ip.0 ≡ n → find (λ (x : PortInfo). nat_eq x.ip.0 n) ports ≡ Some q
  addressed_port q n m is = find_only (λ (x : PortInfo). nat_eq x.ip.0 n) ports q m (eq-eqb q.ip.0 n is) (λ x stands e. one_address x q stands m (eqb-true x.ip.0 n e ∙ sym is))

-- a NEXT_HOP that was looked at is at a port of the participant
pub own_hop : (s : State) → PortsDiffer s.routing.ports → (who : Pid) (ip : Ip) → has_next_hop s who ip ≡ true → option_map (λ (x : PortInfo). x.owner) (port_of s (port_with s.routing.ports ip)) ≡ Some who
own_hop s apart who ip has =
    let found = any_found (λ (q : PortInfo). nat_eq q.owner.0 who.0 && nat_eq q.ip.0 ip.0) s.routing.ports has in
    let q : PortInfo = found.0 in
    let both = and_parts (nat_eq q.owner.0 who.0) (nat_eq q.ip.0 ip.0) found.1.passes in
    let at : port_with s.routing.ports ip ≡ q.number = ap (λ o. option_map_or (λ (x : PortInfo). x.number) o (record { 0 = 0 })) (addressed_port s.routing.ports apart q ip.0 found.1.stands (eqb-true q.ip.0 ip.0 both.1)) in
    let owner : q.owner ≡ who = (λ i. record { 0 = eqb-true q.owner.0 who.0 both.0 i }) in
    ap (λ n. option_map (λ (x : PortInfo). x.owner) (port_of s n)) at
    ∙ ap (option_map (λ (x : PortInfo). x.owner)) (numbered_port s.routing.ports apart q q.number.0 found.1.stands refl)
    ∙ ap Some owner

-- ---- one more port

module _ (s : State) (q : PortInfo) (free : is_port_taken s q.number q.ip q.mac ≡ false) where
  abbrev takes : PortInfo → Bool
  takes x = nat_eq x.number.0 q.number.0 || nat_eq x.ip.0 q.ip.0 || same_octets x.mac.0 q.mac.0

  none_takes : (x : PortInfo) → Member x s.routing.ports → takes x ≡ false
  none_takes = none_passes takes s.routing.ports (false_from_ne_true (list_any takes s.routing.ports) (λ is.
      clash (or_left (list_any takes s.routing.ports || is_in_pool s q.ip) (same_octets (take 3 q.mac.0) (2 ∷ 83 ∷ 68 ∷ [])) (or_left (list_any takes s.routing.ports) (is_in_pool s q.ip) is)) free))

  other_number : (x : PortInfo) → Member x s.routing.ports → x.number.0 ≡ q.number.0 → ⊥
  other_number x m same = clash (or_left (nat_eq x.number.0 q.number.0 || nat_eq x.ip.0 q.ip.0) (same_octets x.mac.0 q.mac.0) (or_left (nat_eq x.number.0 q.number.0) (nat_eq x.ip.0 q.ip.0) (eq-eqb x.number.0 q.number.0 same))) (none_takes x m)

  other_address : (x : PortInfo) → Member x s.routing.ports → x.ip.0 ≡ q.ip.0 → ⊥
  other_address x m same =
      clash (or_left (nat_eq x.number.0 q.number.0 || nat_eq x.ip.0 q.ip.0) (same_octets x.mac.0 q.mac.0) (or_right (nat_eq x.number.0 q.number.0) (nat_eq x.ip.0 q.ip.0) (eq-eqb x.ip.0 q.ip.0 same))) (none_takes x m)

  -- places of the same value are one, where they were one and the new port's value is another
  one_place : (value : PortInfo → ℕ) → ((i j : ℕ) (x y : PortInfo) → slice_get s.routing.ports i ≡ Some x → slice_get s.routing.ports j ≡ Some y → value x ≡ value y → i ≡ j)
      → ((x : PortInfo) → Member x s.routing.ports → value x ≡ value q → ⊥)
      → (i j : ℕ) (x y : PortInfo) → slice_get (s.routing.ports ++ q ∷ []) i ≡ Some x → slice_get (s.routing.ports ++ q ∷ []) j ≡ Some y → value x ≡ value y → i ≡ j
  one_place value old other i j x y e f same = elim (get_last s.routing.ports q i x e) [
    | inl there ↦ elim (get_last s.routing.ports q j y f) [
      | inl too ↦ old i j x y there too same
      | inr last ↦ absurd (other x (slice_get-Member s.routing.ports i x there) (same ∙ ap value (sym last.1)))
    ]
    | inr here ↦ elim (get_last s.routing.ports q j y f) [
      | inl too ↦ absurd (other y (slice_get-Member s.routing.ports j y too) (sym same ∙ ap value (sym here.1)))
      | inr last ↦ here.0 ∙ sym last.0
    ]
  ]

  pub stay_apart : PortsDiffer s.routing.ports → PortsDiffer (s.routing.ports ++ q ∷ [])
  stay_apart apart = record {
    numbers = one_place (λ x. x.number.0) apart.numbers other_number;
    addresses = one_place (λ x. x.ip.0) apart.addresses other_address;
  }
