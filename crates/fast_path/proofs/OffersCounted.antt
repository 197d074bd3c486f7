-- Steps of the loops over offers, and what offers take of a participant's room.
use Rattle.std.proofs.Common.{◌≡◌, ℕ, zero, suc, ◌+◌, ◌-◌, ◌<◌, ◌≤◌, Bool, true, false, cond, eqb, List, [], ◌∷◌, ◌++◌, drop, length, map, get_or, set, take, append_assoc, append-nil, eq-eqb, get_or-set_same, get_or-set_other, sym, ap, subst, ◌∙◌, refl, arith, inl, inr}
use Rattle.std.specs.Prelude.{Option, Some, None, IfSome, slice_get, unwrap_or}
use Rattle.std.proofs.lemmas.Bool.{eqb-true}
use Rattle.std.proofs.lemmas.List.{take_more}
use Rattle.advert_queue.specs.Advertised.{Advertised, places_of, tags_of_room}
use Rattle.events.specs.declared.Entry.{Entry}
use Rattle.events.specs.declared.TagChange.{TagChange}
use Rattle.net_types.specs.Routes.{numbers}
use Rattle.net_types.specs.Sets.{union_over}
use Rattle.net_types.specs.declared.address.Pid.{Pid}
use Rattle.fast_path.proofs.Loops.{each_next, rest_is}
use Rattle.fast_path.proofs.OfferedPresent.{pid_at}
use Rattle.fast_path.specs.Offers.{AreBelow, HaveRoom, Present, advert_of, adverts_to, all_taken, best_at, offered, offered_all, place_taken}
use Rattle.fast_path.specs.declared.planned.Advert.{Advert}
use Rattle.route_server.specs.Proposed.{Proposed}

-- ---- the loops

-- one participant more
pub number_step : (f : Pid → List Advert) (os more all : List Advert) (k count : ℕ) → k < count → os ++ union_over f (map pid_at (numbers k (count - k))) ≡ all → more ≡ os ++ f (pid_at k) → more ++ union_over f (map pid_at (numbers (k + 1) (count - (k + 1)))) ≡ all
number_step f os more all k count within before now =
    ap (λ xs. xs ++ union_over f (map pid_at (numbers (k + 1) (count - (k + 1))))) now
    ∙ append_assoc os (f (pid_at k)) (union_over f (map pid_at (numbers (k + 1) (count - (k + 1)))))
    ∙ ap (λ n. os ++ union_over f (map pid_at (numbers k n))) (let next : suc (count - (k + 1)) ≡ count - k = omega arith in next)
    ∙ before

-- all participants
pub number_end : (f : Pid → List Advert) (os all : List Advert) (k count : ℕ) → count ≤ k → os ++ union_over f (map pid_at (numbers k (count - k))) ≡ all → os ≡ all
number_end f os all k count past before =
    sym (append-nil os) ∙ ap (λ n. os ++ union_over f (map pid_at (numbers k n))) (let none : 0 ≡ count - k = omega arith in none) ∙ before

-- one prefix more
pub adverts_step : (p : Proposed) (who : Pid) (cs : List TagChange) (n : ℕ) (x : TagChange) (os more all : List Advert) → n < length cs → x ≡ get_or cs n x → os ++ adverts_to p who n (drop n cs) ≡ all → more ≡ os ++ advert_of (best_at p n) x who ∷ [] → more ++ adverts_to p who (n + 1) (drop (n + 1) cs) ≡ all
adverts_step p who cs n x os more all within is before now =
    ap (λ xs. xs ++ adverts_to p who (n + 1) (drop (n + 1) cs)) now
    ∙ append_assoc os (advert_of (best_at p n) x who ∷ []) (adverts_to p who (n + 1) (drop (n + 1) cs))
    ∙ ap (λ xs. os ++ adverts_to p who n xs) (sym (rest_is cs n x within ∙ ap (λ y. y ∷ drop (n + 1) cs) (sym is)))
    ∙ before

-- ---- what offers take

module _ (taken : Present → Advert → ℕ) where
  taken_first : (all : Present) (o : Advert) (os : List Advert) → all_taken taken all (o ∷ os) o.who.0 ≡ taken all o + all_taken taken (offered all o) os o.who.0
  taken_first all o os = ap (λ b. cond b (taken all o) 0 + all_taken taken (offered all o) os o.who.0) (eq-eqb o.who.0 o.who.0 refl)

  taken_away : (all : Present) (o : Advert) (os : List Advert) (n : ℕ) → eqb o.who.0 n ≡ false → all_taken taken all (o ∷ os) n ≡ all_taken taken (offered all o) os n
  taken_away all o os n apart =
      let e : all_taken taken all (o ∷ os) n ≡ 0 + all_taken taken (offered all o) os n = ap (λ b. cond b (taken all o) 0 + all_taken taken (offered all o) os n) apart in
      omega (arith, e)

  -- one more takes what it does by what is present then
  taken_last : (all : Present) (os : List Advert) (o : Advert) (n : ℕ) → all_taken taken all (os ++ o ∷ []) n ≡ all_taken taken all os n + cond (eqb o.who.0 n) (taken (offered_all all os) o) 0
  taken_last all [] o n = omega arith
  taken_last all (x ∷ xs) o n = let rest = taken_last (offered all x) xs o n in omega (arith, rest)

  -- one that is offered finds what it takes
  number_first : (all : Present) (room : List ℕ) (count : ℕ) (o : Advert) (os : List Advert) → o.who.0 < count → ((n : ℕ) → n < count → all_taken taken all (o ∷ os) n ≤ unwrap_or (slice_get room n) 0) → taken all o ≤ unwrap_or (slice_get room o.who.0) 0
  number_first all room count o os known have = let most = have o.who.0 known in let here = taken_first all o os in omega (arith, most, here)

  -- and leaves what the others take
  number_left : (all : Present) (room left : List ℕ) (count : ℕ) (o : Advert) (os : List Advert) → ((n : ℕ) → n < count → all_taken taken all (o ∷ os) n ≤ unwrap_or (slice_get room n) 0)
      → unwrap_or (slice_get room o.who.0) 0 ≤ unwrap_or (slice_get left o.who.0) 0 + taken all o → ((other : Pid) → ¬ other.0 ≡ o.who.0 → unwrap_or (slice_get left other.0) 0 ≡ unwrap_or (slice_get room other.0) 0)
      → (n : ℕ) → n < count → all_taken taken (offered all o) os n ≤ unwrap_or (slice_get left n) 0
  number_left all room left count o os have used others n within = by (eqb o.who.0 n) refl
    where
      by : (b : Bool) → eqb o.who.0 n ≡ b → all_taken taken (offered all o) os n ≤ unwrap_or (slice_get left n) 0
      by true is =
          subst (λ k. all_taken taken (offered all o) os k ≤ unwrap_or (slice_get left k) 0) (eqb-true o.who.0 n is)
          (let most = have o.who.0 (subst (λ k. k < count) (sym (eqb-true o.who.0 n is)) within) in let here = taken_first all o os in omega (arith, most, here, used))
      by false apart =
          let most = have n within in
          let same = others (pid_at n) (λ at. absurd (cc (eq-eqb o.who.0 n (sym at), apart))) in
          let away = taken_away all o os n apart in
          omega (arith, most, same, away)

module _ (a : Advertised) (o : Advert) (os : List Advert) (have : HaveRoom a (o ∷ os)) where
  pub place_first : o.who.0 < length a.told → place_taken a.told a.present o ≤ places_of a o.who
  place_first known = number_first (place_taken a.told) a.present a.places (length a.told) o os known have.places

  pub tag_first : o.who.0 < length a.told → IfSome o.entry (λ (e : Entry). e.tag.0 < tags_of_room a o.who)
  tag_first known = have.tags o.who.0 known o (inl refl)

  -- there is room for the others once it is offered
  pub room_left : (b : Advertised) → b.told ≡ a.told → b.present ≡ offered a.present o
      → places_of a o.who ≤ places_of b o.who + place_taken a.told a.present o → ((other : Pid) → ¬ other.0 ≡ o.who.0 → places_of b other ≡ places_of a other) → b.tags ≡ a.tags
      → HaveRoom b os
  room_left b told present place places tags = record {
    places = λ n within. (
        let most = number_left (place_taken a.told) a.present a.places b.places (length a.told) o os have.places place places n (subst (λ ts. n < length ts) told within) in
        let same : all_taken (place_taken b.told) b.present os n ≡ all_taken (place_taken a.told) (offered a.present o) os n = λ i. all_taken (place_taken (told i)) (present i) os n in
        omega (arith, most, same));
    tags = λ n within. subst (λ ts. AreBelow (unwrap_or (slice_get ts n) 0) os) (sym tags) (λ x m. have.tags n (subst (λ ts. n < length ts) told within) x (inr m));
  }

-- ---- numbers of what is needed

-- within a list it doesn't matter what stands past its end
default_any : (xs : List ℕ) (i a b : ℕ) → i < length xs → get_or xs i a ≡ get_or xs i b
default_any [] i a b within = absurd (omega arith)
default_any (x ∷ xs) zero a b within = refl
default_any (x ∷ xs) (suc i) a b within = default_any xs i a b (omega arith)

pub number_at : (counts : List ℕ) (k v : ℕ) → k < length counts → v ≡ get_or counts k v → v ≡ get_or counts k 0
number_at counts k v within value = value ∙ default_any counts k v 0 within

pub take_next : (os : List Advert) (i : ℕ) (x : Advert) → i < length os → x ≡ get_or os i x → take (i + 1) os ≡ take i os ++ x ∷ []
take_next os i x within is = take_more os i x within ∙ ap (λ y. take i os ++ y ∷ []) (sym is)

-- one offer more is counted
pub counted_more : (taken : Present → Advert → ℕ) (all : Present) (os : List Advert) (i : ℕ) (x : Advert) (counts : List ℕ) (v c : ℕ) → i < length os → x ≡ get_or os i x → x.who.0 < length counts
    → ((n : ℕ) → all_taken taken all (take i os) n ≤ get_or counts n 0) → v ≡ get_or counts x.who.0 v → taken (offered_all all (take i os)) x ≤ c
    → (n : ℕ) → all_taken taken all (take (i + 1) os) n ≤ get_or (set counts x.who.0 (v + c)) n 0
counted_more taken all os i x counts v c within is known before value enough n = by (eqb x.who.0 n) refl
  where
    more : all_taken taken all (take (i + 1) os) n ≡ all_taken taken all (take i os) n + cond (eqb x.who.0 n) (taken (offered_all all (take i os)) x) 0
    more = ap (λ xs. all_taken taken all xs n) (take_next os i x within is) ∙ taken_last taken all (take i os) x n

    by : (b : Bool) → eqb x.who.0 n ≡ b → all_taken taken all (take (i + 1) os) n ≤ get_or (set counts x.who.0 (v + c)) n 0
    by true at =
        let same : x.who.0 ≡ n = eqb-true x.who.0 n at in
        let now : get_or (set counts x.who.0 (v + c)) n 0 ≡ v + c = ap (λ k. get_or (set counts x.who.0 (v + c)) k 0) (sym same) ∙ get_or-set_same counts x.who.0 (v + c) 0 known in
        let was : v ≡ get_or counts n 0 = number_at counts x.who.0 v known value ∙ ap (λ k. get_or counts k 0) same in
        let few = before n in
        let one : cond (eqb x.who.0 n) (taken (offered_all all (take i os)) x) 0 ≡ taken (offered_all all (take i os)) x = ap (λ b. cond b (taken (offered_all all (take i os)) x) 0) at in
        omega (arith, more, now, was, few, one, enough)
    by false apart =
        let now = get_or-set_other counts x.who.0 n (v + c) 0 (λ same. absurd (cc (eq-eqb x.who.0 n (sym same), apart))) in
        let few = before n in
        let none : cond (eqb x.who.0 n) (taken (offered_all all (take i os)) x) 0 ≡ 0 = ap (λ b. cond b (taken (offered_all all (take i os)) x) 0) apart in
        omega (arith, more, now, few, none)

-- no number is more than there are offers
pub few_more : (counts : List ℕ) (i k v c : ℕ) → ((n : ℕ) → get_or counts n 0 ≤ i) → k < length counts → v ≡ get_or counts k v → c ≤ 1 → (n : ℕ) → get_or (set counts k (v + c)) n 0 ≤ i + 1
few_more counts i k v c before known value one n = by (eqb k n) refl
  where
    by : (b : Bool) → eqb k n ≡ b → get_or (set counts k (v + c)) n 0 ≤ i + 1
    by true at =
        let same : k ≡ n = eqb-true k n at in
        let now : get_or (set counts k (v + c)) n 0 ≡ v + c = ap (λ j. get_or (set counts k (v + c)) j 0) (sym same) ∙ get_or-set_same counts k (v + c) 0 known in
        let was = number_at counts k v known value in
        let few = before k in
        omega (arith, now, was, few, one)
    by false apart =
        let now = get_or-set_other counts k n (v + c) 0 (λ same. absurd (cc (eq-eqb k n (sym same), apart))) in
        let few = before n in
        omega (arith, now, few)

-- there is room for what one participant more needs
pub room_more : (need : ℕ → ℕ) (room left : List ℕ) (k : ℕ) → ((n : ℕ) → n < k → need n ≤ unwrap_or (slice_get room n) 0)
    → ((other : Pid) → unwrap_or (slice_get room other.0) 0 ≤ unwrap_or (slice_get left other.0) 0) → need k ≤ unwrap_or (slice_get left k) 0 → (n : ℕ) → n < k + 1 → need n ≤ unwrap_or (slice_get left n) 0
room_more need room left k before kept here n below = by (eqb n k) refl
  where
    by : (b : Bool) → eqb n k ≡ b → need n ≤ unwrap_or (slice_get left n) 0
    by true at = subst (λ j. need j ≤ unwrap_or (slice_get left j) 0) (sym (eqb-true n k at)) here
    by false apart =
        let less : n < k = ne_less (λ same. absurd (cc (eq-eqb n k same, apart))) in
        let was = before n less in
        let more = kept (pid_at n) in
        omega (arith, was, more)
      where
        ne_less : (n ≡ k → ⊥) → n < k
        ne_less differ = omega (arith, differ)

-- so where as much is needed as is counted
pub counted_room : (need : ℕ → ℕ) (counts room left : List ℕ) (k v : ℕ) → ((n : ℕ) → need n ≤ get_or counts n 0) → k < length counts → v ≡ get_or counts k v → ((n : ℕ) → n < k → need n ≤ unwrap_or (slice_get room n) 0)
    → ((other : Pid) → unwrap_or (slice_get room other.0) 0 ≤ unwrap_or (slice_get left other.0) 0) → v ≤ unwrap_or (slice_get left k) 0 → (n : ℕ) → n < k + 1 → need n ≤ unwrap_or (slice_get left n) 0
counted_room need counts room left k v are within value before kept here =
    room_more need room left k before kept (let same = number_at counts k v within value in let most = are k in omega (arith, here, same, most))

-- tags below a number are below a greater one
pub still_below : (os : List Advert) (m n : ℕ) → m ≤ n → AreBelow m os → AreBelow n os
still_below os m n more below o stands = by o.entry (below o stands)
  where
    by : (e : Option Entry) → IfSome e (λ (e : Entry). e.tag.0 < m) → IfSome e (λ (e : Entry). e.tag.0 < n)
    by None none = tt
    by (Some e) less = omega (arith, less, more)

-- a number above the tags of the offers so far, and of the next one
pub below_next : (os : List Advert) (i : ℕ) (x : Advert) (m n : ℕ) → i < length os → x ≡ get_or os i x → AreBelow m (take i os) → m ≤ n → IfSome x.entry (λ (e : Entry). e.tag.0 < n) → AreBelow n (take (i + 1) os)
below_next os i x m n within is before more here = each_next (λ (o : Advert). IfSome o.entry (λ (e : Entry). e.tag.0 < n)) os i x within is (still_below (take i os) m n more before) here
