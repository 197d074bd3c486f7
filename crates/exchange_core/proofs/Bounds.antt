-- How many pairs a line builds at most.
use Rattle.std.proofs.Common.{◌≡◌, ℕ, ◌+◌, ◌*◌, ◌≤◌, Bool, true, false, cond, ◌&&◌, ◌||◌, not, List, [], ◌∷◌, length, filter, map, sym, ap, subst, ◌∙◌, refl, inl, inr, ⊎_elim, arith}
use Rattle.std.specs.Prelude.{◌⊎◌, nat_eq}
use Rattle.std.proofs.lemmas.Bool.{and_parts, or_cases}
use Rattle.std.proofs.lemmas.List.{length-append, length-map, length-take}
use Rattle.events.specs.State.{State}
use Rattle.events.specs.Tags.{free_tags, groups, is_live_pair, live_pairs, pairs, retagged}
use Rattle.exchange_laws.specs.Listed.{comes}
use Rattle.exchange_laws.specs.Rules.{IsChange}
use Rattle.exchange_laws.specs.Steady.{PortsDiffer}
use Rattle.fast_path.proofs.NewPairs.{kept_place, new_pairs_all}
use Rattle.fast_path.specs.Committing.{class_of, classes_of}
use Rattle.fast_path.specs.LiveOnly.{group_signatures, group_tags, registered}
use Rattle.fast_path.specs.Pairs.{class_pairs, pair_at, sender_pairs}
use Rattle.fast_path.specs.Planned.{group_kept}
use Rattle.fast_path.specs.Plans.{build_count}
use Rattle.fast_path.specs.declared.planned.Class.{Class}
use Rattle.net_types.proofs.FindLemmas.{slice_get-Member}
use Rattle.net_types.proofs.OrderLemmas.{pairs_total}
use Rattle.net_types.proofs.OrderedLemmas.{ordered_rises}
use Rattle.net_types.proofs.RisingLemmas.{before, before_itself, filter-IsRising, filter-Member}
use Rattle.net_types.proofs.SetLemmas.{Member-map, Member-union, map-Member, union-Member}
use Rattle.net_types.proofs.TieLemmas.{pair_tie}
use Rattle.net_types.proofs.WidthLemmas.{no_longer}
use Rattle.net_types.specs.Exports.{Routing}
use Rattle.net_types.specs.Keys.{pair_cmp}
use Rattle.net_types.specs.Sets.{HasNoRepeats, IsRising, Member, union_over}
use Rattle.net_types.specs.declared.address.PortNo.{PortNo}
use Rattle.net_types.specs.declared.address.Tag.{Tag}
use Rattle.net_types.specs.declared.route.PortInfo.{PortInfo}
use Rattle.net_types.specs.declared.rule.Pair.{Pair}
use Rattle.registry.specs.Registered.{ports_of}

-- what passes one test or another is no more than what passes the one and what passes the other
either_few : {A : Type 0} (a b c : A → Bool) (xs : List A) → ((x : A) → a x ≡ true → (b x ≡ true) ⊎ (c x ≡ true)) → length (filter a xs) ≤ length (filter b xs) + length (filter c xs)
either_few a b c [] each = omega arith
either_few a b c (x ∷ xs) each = by (a x) (b x) (c x) refl refl refl (either_few a b c xs each)
  where
    by : (p q r : Bool) → a x ≡ p → b x ≡ q → c x ≡ r → length (filter a xs) ≤ length (filter b xs) + length (filter c xs)
        → length (cond p (x ∷ filter a xs) (filter a xs)) ≤ length (cond q (x ∷ filter b xs) (filter b xs)) + length (cond r (x ∷ filter c xs) (filter c xs))
    by false false false ea eb ec few = few
    by false false true ea eb ec few = omega (arith, few)
    by false true false ea eb ec few = omega (arith, few)
    by false true true ea eb ec few = omega (arith, few)
    by true false true ea eb ec few = omega (arith, few)
    by true true false ea eb ec few = omega (arith, few)
    by true true true ea eb ec few = omega (arith, few)
    by true false false ea eb ec few = absurd (⊎_elim (λ e. no eb e) (λ e. no ec e) (each x ea))
      where
        no : {d : Bool} → d ≡ false → d ≡ true → ⊥
        no is other = cc

-- a rising list has no repeats
no_repeats : (ks : List Pair) → IsRising (before pair_cmp) ks → HasNoRepeats ks
no_repeats [] rises = tt
no_repeats (k ∷ ks) rises = (λ m. before_itself pair_cmp pairs_total k (rises.0 k m), no_repeats ks rises.1)

-- each tag at each port
abbrev grid : List Tag → List PortNo → List Pair
grid ts ports = union_over (λ t. map (pair_at t) ports) ts

grid_length : (ts : List Tag) (ports : List PortNo) → length (grid ts ports) ≡ length ports * length ts
grid_length [] ports = omega arith
grid_length (t ∷ ts) ports =
    let front = length-append (map (pair_at t) ports) (grid ts ports) in
    let one = length-map ports (pair_at t) in
    let rest = grid_length ts ports in
    let more : length ports * length (t ∷ ts) ≡ length ports + length ports * length ts = grind arith in
    front ∙ ap (λ n. n + length (grid ts ports)) one ∙ ap (λ n. length ports + n) rest ∙ sym more

module _ (s : State) (r : Routing) (change : IsChange s r) (own : PortsDiffer s.routing.ports) where
  abbrev numbers_of : List PortNo
  numbers_of = map (λ (q : PortInfo). q.number) s.routing.ports

  -- a pair that becomes live is a fresh tag at a port
  new_in_grid : (pair : Pair) → is_live_pair (retagged s r) pair ≡ true → is_live_pair s pair ≡ false → Member pair (grid (group_tags s r) numbers_of)
  new_in_grid pair live dead =
      let made : List Class = classes_of [] (group_kept s r) in
      let of_class = union-Member (class_pairs (registered s)) made pair (new_pairs_all s r change own [] pair live dead) in
      let c : Class = of_class.of in
      let of_part = union-Member (sender_pairs (registered s) c.tag) c.sig pair of_class.gives in
      let at = map-Member (pair_at c.tag) (ports_of (registered s) of_part.of.sender) pair of_part.gives in
      let port = map-Member (λ (q : PortInfo). q.number) (filter (λ (q : PortInfo). nat_eq q.owner.0 of_part.of.sender.0) s.routing.ports) at.of at.stands in
      let listed : Member port.of s.routing.ports = (filter-Member (λ (q : PortInfo). nat_eq q.owner.0 of_part.of.sender.0) s.routing.ports port.of port.stands).stands in
      let numbered : Member at.of numbers_of = subst (λ n. Member n numbers_of) (sym port.is) (Member-map (λ (q : PortInfo). q.number) s.routing.ports port.of listed) in
      let kept = map-Member (class_of []) (group_kept s r) c of_class.stands in
      let place = kept_place (group_tags s r) (group_signatures s r) kept.of kept.stands in
      let tagged : Member c.tag (group_tags s r) = subst (λ (d : Class). Member d.tag (group_tags s r)) (sym kept.is) (slice_get-Member (group_tags s r) place.0 kept.of.0 place.1) in
      subst (λ x. Member x (grid (group_tags s r) numbers_of)) (sym at.is)
      (Member-union (λ t. map (pair_at t) numbers_of) (group_tags s r) c.tag (pair_at c.tag at.of) tagged (Member-map (pair_at c.tag) numbers_of at.of numbered))

  abbrev is_fresh : Pair → Bool
  is_fresh pair = is_live_pair (retagged s r) pair && not (is_live_pair s pair)

  fresh_few : length (filter is_fresh (live_pairs (retagged s r))) ≤ length s.routing.ports * length (groups s r)
  fresh_few =
      let rises : IsRising (before pair_cmp) (live_pairs (retagged s r)) = ordered_rises pair_cmp pairs_total pair_tie (filter (is_live_pair (retagged s r)) (pairs (retagged s r))) in
      let few = no_longer (filter is_fresh (live_pairs (retagged s r))) (grid (group_tags s r) numbers_of) (no_repeats _ (filter-IsRising (before pair_cmp) is_fresh (live_pairs (retagged s r)) rises)) each in
      let count = grid_length (group_tags s r) numbers_of in
      let ports = length-map s.routing.ports (λ (q : PortInfo). q.number) in
      let tags : length (group_tags s r) ≤ length (groups s r) = let is = length-take (length (groups s r)) (free_tags s) in omega (arith, is) in
      few_by (length (filter is_fresh (live_pairs (retagged s r)))) (length numbers_of) (length s.routing.ports) (length (group_tags s r)) (length (groups s r)) (subst (λ n. length (filter is_fresh (live_pairs (retagged s r))) ≤ n) count few) ports tags
    where
      each : (pair : Pair) → Member pair (filter is_fresh (live_pairs (retagged s r))) → Member pair (grid (group_tags s r) numbers_of)
      each pair m =
          let passes = and_parts (is_live_pair (retagged s r) pair) (not (is_live_pair s pair)) (filter-Member is_fresh (live_pairs (retagged s r)) pair m).passes in
          new_in_grid pair passes.0 (unset (is_live_pair s pair) passes.1)
        where
          unset : (b : Bool) → not b ≡ true → b ≡ false
          unset true e = cc
          unset false e = refl

      few_by : (n a b c d : ℕ) → n ≤ a * c → a ≡ b → c ≤ d → n ≤ b * d
      few_by n a b c d few is less = grind (arith, few, is, less)

  -- a line builds the fresh tags at all ports at most, and the live pairs that are built anew
  pub built_few : (is_rebuilt : Pair → Bool) → build_count s r is_rebuilt ≤ length s.routing.ports * length (groups s r) + length (filter is_rebuilt (live_pairs (retagged s r)))
  built_few is_rebuilt =
      let split = either_few (comes s (retagged s r) is_rebuilt) is_fresh is_rebuilt (live_pairs (retagged s r)) each in
      let fresh = fresh_few in
      omega (arith, split, fresh)
    where
      each : (pair : Pair) → comes s (retagged s r) is_rebuilt pair ≡ true → (is_fresh pair ≡ true) ⊎ (is_rebuilt pair ≡ true)
      each pair e =
          let parts = and_parts (is_live_pair (retagged s r) pair) (not (is_live_pair s pair) || is_rebuilt pair) e in
          ⊎_elim (λ dead. inl (both (is_live_pair (retagged s r) pair) (not (is_live_pair s pair)) parts.0 dead)) (λ is. inr is) (or_cases (not (is_live_pair s pair)) (is_rebuilt pair) parts.1)
        where
          both : (x y : Bool) → x ≡ true → y ≡ true → (x && y) ≡ true
          both true true one two = refl
          both true false one two = cc
          both false y one two = cc
