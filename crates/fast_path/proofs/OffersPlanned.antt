-- What a proposal offers is what is present in the state afterwards, and what it doesn't offer is present as it was.
use Rattle.std.proofs.Common.{◌≡◌, ℕ, zero, suc, ◌+◌, ◌<◌, ◌≤◌, List, [], ◌∷◌, drop, length, map, sym, ap, subst, ◌∙◌, refl, arith, inl, inr}
use Rattle.std.specs.Prelude.{Option, Some, None, slice_get, unwrap_or}
use Rattle.std.specs.FinMap.{get}
use Rattle.std.specs.Option.{option_and_then, option_map}
use Rattle.events.specs.State.{State, present, present_entry}
use Rattle.events.specs.Tags.{retagged}
use Rattle.events.specs.declared.Entry.{Entry}
use Rattle.events.specs.declared.TagChange.{TagChange}
use Rattle.exchange_laws.proofs.Lists.{numbers_range}
use Rattle.exchange_laws.proofs.LivePairs.{present_is}
use Rattle.exchange_laws.proofs.TouchedPrefixes.{others_stay_present}
use Rattle.exchange_laws.specs.Touched.{IsTouching}
use Rattle.net_types.proofs.OrderLemmas.{prefix_tie, prefixes_total}
use Rattle.net_types.proofs.PassLemmas.{place_member}
use Rattle.net_types.proofs.SetLemmas.{Member-map, Member-union, map-Member, union-Member}
use Rattle.net_types.specs.Changes.{best_attrs}
use Rattle.net_types.specs.Exports.{Routing}
use Rattle.net_types.specs.Keys.{prefix_cmp}
use Rattle.net_types.specs.Routes.{Candidate, best, pids}
use Rattle.net_types.specs.Sets.{Member}
use Rattle.net_types.specs.declared.address.Pid.{Pid}
use Rattle.net_types.specs.declared.address.Tag.{Tag}
use Rattle.net_types.specs.declared.prefix.Prefix.{Prefix}
use Rattle.net_types.specs.declared.route.Attrs.{Attrs}
use Rattle.net_types.specs.declared.route.Part.{Part}
use Rattle.fast_path.proofs.CommittedMaps.{stands_or_not}
use Rattle.fast_path.proofs.ListPlaces.{mapped_at}
use Rattle.fast_path.proofs.OfferedPresent.{listed_at, pid_at}
use Rattle.fast_path.specs.Grouping.{Known}
use Rattle.fast_path.specs.Offers.{AreOffers, IsOffered, advert_of, adverts_of, adverts_to, best_at, entry_of, tagged}
use Rattle.fast_path.specs.declared.fresh.Fresh.{Fresh}
use Rattle.fast_path.specs.declared.planned.Advert.{Advert}
use Rattle.route_server.specs.Proposed.{Proposed}

-- ---- the touched prefixes with their tags

-- there are no more than touched ones
pub tagged_few : (k : Known) (fs : List Fresh) (ts : List Tag) (ps : List Prefix) (sigs : List (List Part)) → length (tagged k fs ts ps sigs) ≤ length ps
tagged_few k fs ts [] sigs = omega arith
tagged_few k fs ts (p ∷ ps) [] = omega arith
tagged_few k fs ts (p ∷ ps) (sig ∷ sigs) = let later = tagged_few k fs ts ps sigs in omega (arith, later)

-- ---- what is offered of them

-- the first of what is left
first_left : {A : Type 0} (xs : List A) (n : ℕ) (y : A) (ys : List A) → drop n xs ≡ y ∷ ys → slice_get xs n ≡ Some y
first_left [] zero y ys e = cc
first_left [] (suc n) y ys e = cc
first_left (x ∷ xs) zero y ys e = ap (λ zs. slice_get zs 0) e
first_left (x ∷ xs) (suc n) y ys e = first_left xs n y ys e

-- and the others
then_left : {A : Type 0} (xs : List A) (n : ℕ) (y : A) (ys : List A) → drop n xs ≡ y ∷ ys → drop (n + 1) xs ≡ ys
then_left [] zero y ys e = absurd (cc)
then_left [] (suc n) y ys e = absurd (cc)
then_left (x ∷ xs) zero y ys e = cc
then_left (x ∷ xs) (suc n) y ys e = (let next : suc n + 1 ≡ suc (n + 1) = omega arith in ap (λ k. drop k (x ∷ xs)) next) ∙ then_left xs n y ys e

-- an entry is the best attributes with the tag
entry_is : (s : State) (who : Pid) (p : Prefix) → entry_of (best_attrs s.routing who p) (get s.tag p) ≡ present_entry s who p
entry_is s who p = by (best s.routing who p)
  where
    by : (b : Option Candidate) → entry_of (option_map (λ (c : Candidate). c.attrs) b) (get s.tag p) ≡ option_and_then (λ (c : Candidate). option_map (λ t. let e : Entry = record { attrs = c.attrs; tag = t } in e) (get s.tag p)) b
    by None = refl
    by (Some c) = refl

pid_within : (r : Routing) (who : Pid) → Member who (pids r) → who.0 < length r.participants
pid_within r who m = let range = numbers_range pid_at (λ (w : Pid). w.0) (λ n. refl) 0 (length r.participants) who m in omega (arith, range)

pid_listed : (r : Routing) (who : Pid) → who.0 < length r.participants → Member who (pids r)
pid_listed r who within = place_member pid_at 0 (length r.participants) who.0 (omega arith) (omega arith)

module _ (p : Proposed) (s : State) (ps : List Prefix) (bests : p.bests ≡ map (λ q. map (λ to. best_attrs s.routing to q) (pids s.routing)) ps) where
  abbrev bests_of : Prefix → List (Option Attrs)
  bests_of q = map (λ to. best_attrs s.routing to q) (pids s.routing)

  -- what is present of the prefix is offered to the participant
  abbrev advert : Prefix → Pid → Advert
  advert q who = record { who = who; prefix = q; entry = present_entry s who q }

  abbrev with_tag : Prefix → TagChange
  with_tag q = record { prefix = q; tag = get s.tag q }

  best_is : (n : ℕ) (q : Prefix) (who : Pid) → slice_get p.bests n ≡ Some (bests_of q) → who.0 < length s.routing.participants → best_at p n who ≡ best_attrs s.routing who q
  best_is n q who at within =
      ap (λ o. option_and_then (λ (b : Option Attrs). b) (slice_get (unwrap_or o []) who.0)) at
      ∙ ap (option_and_then (λ (b : Option Attrs). b)) (mapped_at (λ to. best_attrs s.routing to q) (pids s.routing) who.0 who (listed_at (length s.routing.participants) who within))

  advert_is : (n : ℕ) (q : Prefix) (who : Pid) → slice_get p.bests n ≡ Some (bests_of q) → who.0 < length s.routing.participants → advert_of (best_at p n) (with_tag q) who ≡ advert q who
  advert_is n q who at within = λ i. record { who = who; prefix = q; entry = (ap (λ b. entry_of b (get s.tag q)) (best_is n q who at within) ∙ entry_is s who q) i }

  adverts_are : (who : Pid) → who.0 < length s.routing.participants → (n : ℕ) (qs : List Prefix) → drop n p.bests ≡ map bests_of qs → adverts_to p who n (map with_tag qs) ≡ map (λ q. advert q who) qs
  adverts_are who within n [] left = refl
  adverts_are who within n (q ∷ qs) left =
      ap (λ o. o ∷ adverts_to p who (n + 1) (map with_tag qs)) (advert_is n q who (first_left p.bests n (bests_of q) (map bests_of qs) left) within)
      ∙ ap (λ os. advert q who ∷ os) (adverts_are who within (n + 1) qs (then_left p.bests n (bests_of q) (map bests_of qs) left))

  abbrev adverts : List Advert
  adverts = adverts_of p (pids s.routing) (map with_tag ps)

  -- each says what is present
  advert_each : (o : Advert) → Member o adverts → (o.who.0 < length s.routing.participants) × (o.entry ≡ get (present s o.who) o.prefix)
  advert_each o m =
      let source = union-Member (λ who. adverts_to p who 0 (map with_tag ps)) (pids s.routing) o m in
      let within = pid_within s.routing source.of source.stands in
      let image = map-Member (λ q. advert q source.of) ps o (subst (Member o) (adverts_are source.of within 0 ps bests) source.gives) in
      subst (λ (x : Advert). (x.who.0 < length s.routing.participants) × (x.entry ≡ get (present s x.who) x.prefix)) (sym image.is)
      (within, sym (present_is s source.of image.of))

  -- and every one of the prefixes is offered to every participant
  advert_there : (who : Pid) (q : Prefix) → Member q ps → who.0 < length s.routing.participants → IsOffered adverts who q
  advert_there who q m within = record {
    offer = advert q who;
    stands = Member-union (λ to. adverts_to p to 0 (map with_tag ps)) (pids s.routing) who (advert q who) (pid_listed s.routing who within)
        (subst (Member (advert q who)) (sym (adverts_are who within 0 ps bests)) (Member-map (λ x. advert x who) ps q m));
    to = refl;
    of = refl;
  }

-- ---- from a state to the one after the line

module _ (s : State) (r : Routing) (p : Proposed) (touching : IsTouching s r p.touched) (bests : p.bests ≡ map (λ q. map (λ to. best_attrs r to q) (pids r)) p.touched) where
  abbrev s1 : State
  s1 = retagged s r

  pub offers_made : AreOffers s s1 (adverts_of p (pids r) (map (λ q. let c : TagChange = record { prefix = q; tag = get s1.tag q } in c) p.touched))
  offers_made = record {
    each = λ o m. let at = advert_each p s1 p.touched bests o m in (subst (λ qs. o.who.0 < length qs) touching.alike.participants at.0, at.1);
    all = λ who q within. elim (stands_or_not prefix_cmp prefixes_total prefix_tie p.touched q) [
      | inl touched ↦ inl (advert_there p s1 p.touched bests who q touched (subst (λ qs. who.0 < length qs) (sym touching.alike.participants) within))
      | inr other ↦ inr (others_stay_present s r p.touched touching q who within other)
    ];
  }
