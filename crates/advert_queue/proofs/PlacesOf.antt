-- What the participants are seen as where one of them changes.
use Rattle.std.proofs.Common.{◌≡◌, ℕ, zero, suc, ◌≤◌, ◌<◌, List, [], ◌∷◌, map, length, get_or, set, sym, ap, ◌∙◌, refl, arith}
use Rattle.std.specs.Prelude.{slice_get, slice_set, unwrap_or}
use Rattle.std.specs.FinMap.{FinMap, empty}
use Rattle.std.specs.Option.{option_map}
use Rattle.std.proofs.lemmas.List.{length-map, map-set}
use Rattle.std.proofs.lemmas.Option.{slice_get-get_or, slice_get-map}
use Rattle.std.proofs.Math.Seq.{map-set_same}
use Rattle.events.specs.declared.Entry.{Entry}
use Rattle.net_types.specs.Keys.{prefix_cmp}
use Rattle.net_types.specs.declared.address.Pid.{Pid}
use Rattle.net_types.specs.declared.prefix.Prefix.{Prefix}
use Rattle.advert_queue.specs.Advertised.{Advertised, HasQueue, place_cost, places_of, present_of, tags_of_room, told_of}
use Rattle.advert_queue.specs.Kept.{Queued, advertised_by}

-- what is seen at a place is what the record there is seen as
seen_at : {A B : Type 0} (f : A → B) (xs : List A) (k : ℕ) (x : A) (d : B) → k < length xs → unwrap_or (slice_get (map f xs) k) d ≡ f (get_or xs k x)
seen_at f xs k x d within = ap (λ o. unwrap_or o d) (slice_get-map f xs k ∙ ap (option_map f) (slice_get-get_or xs k x within))

seen_here : {A B : Type 0} (f : A → B) (xs : List A) (k : ℕ) (y : A) (d : B) → k < length xs → unwrap_or (slice_get (map f (set xs k y)) k) d ≡ f y
seen_here f [] k y d within = absurd (omega arith)
seen_here f (z ∷ zs) zero y d within = refl
seen_here f (z ∷ zs) (suc k) y d within = seen_here f zs k y d (omega arith)

seen_elsewhere : {A B : Type 0} (f : A → B) (xs : List A) (k j : ℕ) (y : A) → ¬ j ≡ k → slice_get (map f (set xs k y)) j ≡ slice_get (map f xs) j
seen_elsewhere f [] k j y apart = refl
seen_elsewhere f (z ∷ zs) zero zero y apart = absurd (apart refl)
seen_elsewhere f (z ∷ zs) zero (suc j) y apart = refl
seen_elsewhere f (z ∷ zs) (suc k) zero y apart = refl
seen_elsewhere f (z ∷ zs) (suc k) (suc j) y apart = seen_elsewhere f zs k j y (λ e. apart (ap suc e))

rooms_grow : (f : Queued → ℕ) (qs : List Queued) (k j : ℕ) (x y : Queued) → f (get_or qs k x) ≤ f y → unwrap_or (slice_get (map f qs) j) 0 ≤ unwrap_or (slice_get (map f (set qs k y)) j) 0
rooms_grow f [] k j x y more = omega arith
rooms_grow f (q ∷ qs) zero zero x y more = more
rooms_grow f (q ∷ qs) zero (suc j) x y more = omega arith
rooms_grow f (q ∷ qs) (suc k) zero x y more = omega arith
rooms_grow f (q ∷ qs) (suc k) (suc j) x y more = rooms_grow f qs k j x y more

-- a participant has its record
pub declared : (qs : List Queued) (a : Advertised) (who : Pid) → advertised_by qs ≡ a → HasQueue a who → who.0 < length qs
declared qs a who is has =
    let same : length a.told ≡ length qs = sym (ap (λ (b : Advertised). length b.told) is) ∙ length-map qs (λ (q : Queued). q.told) in
    omega (arith, has, same)

-- ---- where it stands

module _ (qs : List Queued) (who : Pid) (x : Queued) (within : who.0 < length qs) (is : x ≡ get_or qs who.0 x) where
  pub told_here : told_of (advertised_by qs) who ≡ x.told
  told_here = seen_at (λ (q : Queued). q.told) qs who.0 x empty within ∙ ap (λ (q : Queued). q.told) (sym is)

  pub present_here : present_of (advertised_by qs) who ≡ x.present
  present_here = seen_at (λ (q : Queued). q.present) qs who.0 x empty within ∙ ap (λ (q : Queued). q.present) (sym is)

  pub places_here : places_of (advertised_by qs) who ≡ x.places
  places_here = seen_at (λ (q : Queued). q.places) qs who.0 x 0 within ∙ ap (λ (q : Queued). q.places) (sym is)

  pub tags_here : tags_of_room (advertised_by qs) who ≡ x.tags
  tags_here = seen_at (λ (q : Queued). q.tags) qs who.0 x 0 within ∙ ap (λ (q : Queued). q.tags) (sym is)

  pub place_cost_here : (p : Prefix) → place_cost (told_of (advertised_by qs) who) (present_of (advertised_by qs) who) p ≡ place_cost x.told x.present p
  place_cost_here p = λ i. place_cost (told_here i) (present_here i) p

  module _ (y : Queued) where
    abbrev then : Advertised
    then = advertised_by (set qs who.0 y)

    pub told_same : y.told ≡ x.told → then.told ≡ (advertised_by qs).told
    told_same same = map-set_same (λ (q : Queued). q.told) qs who.0 y x (same ∙ ap (λ (q : Queued). q.told) is)

    pub present_same : y.present ≡ x.present → then.present ≡ (advertised_by qs).present
    present_same same = map-set_same (λ (q : Queued). q.present) qs who.0 y x (same ∙ ap (λ (q : Queued). q.present) is)

    pub places_same : y.places ≡ x.places → then.places ≡ (advertised_by qs).places
    places_same same = map-set_same (λ (q : Queued). q.places) qs who.0 y x (same ∙ ap (λ (q : Queued). q.places) is)

    pub tags_same : y.tags ≡ x.tags → then.tags ≡ (advertised_by qs).tags
    tags_same same = map-set_same (λ (q : Queued). q.tags) qs who.0 y x (same ∙ ap (λ (q : Queued). q.tags) is)

    pub told_set : (m : FinMap prefix_cmp Entry) → y.told ≡ m → then.told ≡ slice_set (advertised_by qs).told who.0 m
    told_set m same = map-set (λ (q : Queued). q.told) qs who.0 y ∙ ap (set (map (λ (q : Queued). q.told) qs) who.0) same

    pub present_set : (m : FinMap prefix_cmp Entry) → y.present ≡ m → then.present ≡ slice_set (advertised_by qs).present who.0 m
    present_set m same = map-set (λ (q : Queued). q.present) qs who.0 y ∙ ap (set (map (λ (q : Queued). q.present) qs) who.0) same

    pub places_then : places_of then who ≡ y.places
    places_then = seen_here (λ (q : Queued). q.places) qs who.0 y 0 within

    pub tags_then : tags_of_room then who ≡ y.tags
    tags_then = seen_here (λ (q : Queued). q.tags) qs who.0 y 0 within

    pub places_other : (other : Pid) → ¬ other.0 ≡ who.0 → places_of then other ≡ places_of (advertised_by qs) other
    places_other other apart = ap (λ o. unwrap_or o 0) (seen_elsewhere (λ (q : Queued). q.places) qs who.0 other.0 y apart)

    pub places_grows : x.places ≤ y.places → (other : Pid) → places_of (advertised_by qs) other ≤ places_of then other
    places_grows more other = rooms_grow (λ (q : Queued). q.places) qs who.0 other.0 x y (let same = ap (λ (q : Queued). q.places) is in omega (arith, more, same))

    pub tags_grows : x.tags ≤ y.tags → (other : Pid) → tags_of_room (advertised_by qs) other ≤ tags_of_room then other
    tags_grows more other = rooms_grow (λ (q : Queued). q.tags) qs who.0 other.0 x y (let same = ap (λ (q : Queued). q.tags) is in omega (arith, more, same))
