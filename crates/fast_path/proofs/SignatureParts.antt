-- The parts of a prefix's signature are those of the participants that have a best route for it.
use Rattle.std.proofs.Common.{◌≡◌, ◌<◌, true, length, nat_eq, subst, refl, arith}
use Rattle.std.specs.Prelude.{Option, Some, None, is_some}
use Rattle.std.specs.Option.{option_map}
use Rattle.events.proofs.Routed.{part_with, signature_part}
use Rattle.events.specs.Sound.{part_of}
use Rattle.exchange_laws.proofs.Lists.{is_some_of, numbers_range}
use Rattle.net_types.proofs.FindLemmas.{find-IsFound}
use Rattle.net_types.proofs.PassLemmas.{some_there}
use Rattle.net_types.specs.Exports.{Routing}
use Rattle.net_types.specs.Routes.{Candidate, best, pids}
use Rattle.net_types.specs.Sets.{Member}
use Rattle.net_types.specs.Signatures.{part, signature}
use Rattle.net_types.specs.declared.address.Pid.{Pid}
use Rattle.net_types.specs.declared.prefix.Prefix.{Prefix}
use Rattle.net_types.specs.declared.route.Part.{Part}
use Rattle.std.proofs.lemmas.Option.{same_Some}
use Rattle.net_types.proofs.SetLemmas.{given_by}

-- The sender of a part of a prefix's signature has a best route for the prefix, and this part alone.
pub record IsSenders (r : Routing) (p : Prefix) (x : Part) : Type 0 where
  pub routed : is_some (best r x.sender p) ≡ true
  pub own : part_of (signature r p) x.sender ≡ Some x

part_is : (r : Routing) (p : Prefix) (who : Pid) (x : Part) → who.0 < length r.participants → part r p who ≡ Some x → IsSenders r p x
part_is r p who x declared e = by (best r who p) refl e
  where
    by : (o : Option Candidate) → best r who p ≡ o → option_map (λ (c : Candidate). part_with r who p c) o ≡ Some x → IsSenders r p x
    by None none e = absurd (cc)
    by (Some c) chosen e =
        subst (IsSenders r p) (same_Some (part_with r who p c) x e) (record { routed = is_some_of (best r who p) c chosen; own = signature_part r who p c declared chosen })

pub part_senders : (r : Routing) (p : Prefix) (x : Part) → Member x (signature r p) → IsSenders r p x
part_senders r p x m =
    let g = given_by (part r p) (pids r) x m in
    let range = numbers_range (λ n. let who : Pid = record { 0 = n } in who) (λ (who : Pid). who.0) (λ n. refl) 0 (length r.participants) g.source g.stands in
    part_is r p g.source x (omega arith) g.is

-- the part of a participant that has a best route
pub record HasPart (r : Routing) (p : Prefix) (who : Pid) : Type 0 where
  pub part : Part
  pub stands : Member part (signature r p)
  pub sender : part.sender ≡ who
  pub own : part_of (signature r p) who ≡ Some part

pub has_part : (r : Routing) (p : Prefix) (who : Pid) → who.0 < length r.participants → is_some (best r who p) ≡ true → HasPart r p who
has_part r p who declared routed =
    let chosen = some_there (best r who p) routed in
    let own = signature_part r who p chosen.0 declared chosen.1 in
    let found = find-IsFound (λ (x : Part). nat_eq x.sender.0 who.0) (signature r p) (part_with r who p chosen.0) own in
    record { part = part_with r who p chosen.0; stands = found.stands; sender = refl; own = own }

-- equal signatures have the same senders
pub same_senders : (r r1 : Routing) (p q : Prefix) (who : Pid) → signature r p ≡ signature r1 q → who.0 < length r.participants → is_some (best r who p) ≡ true → is_some (best r1 who q) ≡ true
same_senders r r1 p q who same declared routed =
    let has = has_part r p who declared routed in
    let stands : Member has.part (signature r1 q) = subst (Member has.part) same has.stands in
    subst (λ w. is_some (best r1 w q) ≡ true) has.sender (part_senders r1 q has.part stands).routed
