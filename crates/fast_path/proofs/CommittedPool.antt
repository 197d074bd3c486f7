-- With the fresh tags taken and the dead ones given back, the free tags of the pool are those of the state afterwards.
use Rattle.std.proofs.Common.{◌≡◌, ◌-◌, ◌<◌, ◌≤◌, Bool, true, false, eq-eqb, filter, get_or-set_other, get_or-set_same, length-set, List, [], ◌∷◌, length, map, not, sym, ap, subst, ◌∙◌, refl, arith, inl, inr, take}
use Rattle.std.proofs.lemmas.Bool.{ltb-true, not-true}
use Rattle.events.specs.State.{State}
use Rattle.events.specs.Tags.{groups, is_live, retagged, same_tag, tags}
use Rattle.events.specs.Tags as events
use Rattle.exchange_laws.proofs.Lists.{TableOf, clash, numbers_range}
use Rattle.exchange_laws.proofs.Sames.{tag_same}
use Rattle.exchange_laws.specs.Retagging.{TagsArePooled}
use Rattle.net_types.proofs.RisingLemmas.{Member-filter, filter-Member}
use Rattle.net_types.specs.Exports.{Routing}
use Rattle.net_types.specs.Routes.{numbers}
use Rattle.net_types.specs.Sets.{IsRising, Member}
use Rattle.net_types.specs.declared.address.Tag.{Tag}
use Rattle.fast_path.proofs.CommittedFresh.{fresh_listed, fresh_live, group_tags_rise, listed_fresh, live_from_before, was_free}
use Rattle.fast_path.proofs.CommittedMaps.{filter_alike}
use Rattle.fast_path.specs.Committing.{AreFree, AreTaken, marked_all}
use Rattle.next_hop_pool.specs.Free.{IsTag, Tags, free_tags, is_taken, marked, tag}
use Rattle.fast_path.specs.Planned.{IsPoolOf, is_tag_below}
use Rattle.fast_path.specs.LiveOnly.{AreDead, group_tags}

-- ---- marks

marked_length : (p : Tags) (t : Tag) (b : Bool) → length (marked p t b).taken ≡ length p.taken
marked_length p t b = length-set p.taken (t.0 - 1) b

still_tag : (p : Tags) (t u : Tag) (b : Bool) → IsTag p u → IsTag (marked p t b) u
still_tag p t u b is = let within : u.0 ≤ length p.taken = is.within in record { above = is.above; within = let same = marked_length p t b in omega (arith, same) }

marked_here : (p : Tags) (t : Tag) (b : Bool) → IsTag p t → is_taken (marked p t b) t ≡ b
marked_here p t b is =
    let above : 0 < t.0 = is.above in
    let within : t.0 ≤ length p.taken = is.within in
    get_or-set_same p.taken (t.0 - 1) b true (let below : t.0 - 1 < length p.taken = omega arith in below)

marked_other : (p : Tags) (t u : Tag) (b : Bool) → IsTag p t → IsTag p u → (u.0 ≡ t.0 → ⊥) → is_taken (marked p t b) u ≡ is_taken p u
marked_other p t u b is other differ =
    let above : 0 < t.0 = is.above in
    let high : 0 < u.0 = other.above in
    get_or-set_other p.taken (t.0 - 1) (u.0 - 1) b true (λ same. differ (omega arith))

pub marked_all_length : (p : Tags) (ts : List Tag) (b : Bool) → length (marked_all p ts b).taken ≡ length p.taken
marked_all_length p [] b = refl
marked_all_length p (t ∷ ts) b = marked_all_length (marked p t b) ts b ∙ marked_length p t b

pub marked_all_base : (p : Tags) (ts : List Tag) (b : Bool) → (marked_all p ts b).base ≡ p.base
marked_all_base p [] b = refl
marked_all_base p (t ∷ ts) b = marked_all_base (marked p t b) ts b

-- all are tags of the pool
abbrev pub AreTags : Tags → List Tag → Type 0
AreTags p ts = (t : Tag) → Member t ts → IsTag p t

-- a mark at a tag among others that are to have it
mark_stays : (p : Tags) (t u : Tag) (b : Bool) → IsTag p t → IsTag p u → is_taken p u ≡ b → is_taken (marked p t b) u ≡ b
mark_stays p t u b is other at = by (same_tag u t) refl
  where
    by : (c : Bool) → same_tag u t ≡ c → is_taken (marked p t b) u ≡ b
    by true same = ap (is_taken (marked p t b)) (tag_same u t same) ∙ marked_here p t b is
    by false apart = marked_other p t u b is other (λ e. clash (eq-eqb u.0 t.0 e) apart) ∙ at

-- tags that are marked so already stay so
marks_stay : (p : Tags) (ts : List Tag) (b : Bool) (u : Tag) → AreTags p ts → IsTag p u → is_taken p u ≡ b → is_taken (marked_all p ts b) u ≡ b
marks_stay p [] b u are is at = at
marks_stay p (t ∷ ts) b u are is at =
    marks_stay (marked p t b) ts b u (λ v m. still_tag p t v b (are v (inr m))) (still_tag p t u b is) (mark_stays p t u b (are t (inl refl)) is at)

-- those that are marked are so
pub marked_those : (p : Tags) (ts : List Tag) (b : Bool) (u : Tag) → AreTags p ts → Member u ts → is_taken (marked_all p ts b) u ≡ b
marked_those p [] b u are m = elim m [ ]
marked_those p (t ∷ ts) b u are (inl e) =
    marks_stay (marked p t b) ts b u (λ v m. still_tag p t v b (are v (inr m))) (still_tag p t u b (subst (IsTag p) (sym e) (are t (inl refl))))
    (ap (is_taken (marked p t b)) e ∙ marked_here p t b (are t (inl refl)))
marked_those p (t ∷ ts) b u are (inr m) = marked_those (marked p t b) ts b u (λ v k. still_tag p t v b (are v (inr k))) m

-- and all others as they were
pub marked_others : (p : Tags) (ts : List Tag) (b : Bool) (u : Tag) → AreTags p ts → IsTag p u → (Member u ts → ⊥) → is_taken (marked_all p ts b) u ≡ is_taken p u
marked_others p [] b u are is other = refl
marked_others p (t ∷ ts) b u are is other =
    marked_others (marked p t b) ts b u (λ v m. still_tag p t v b (are v (inr m))) (still_tag p t u b is) (λ m. other (inr m))
    ∙ marked_other p t u b (are t (inl refl)) is (λ e. other (inl (tag_same u t (eq-eqb u.0 t.0 e))))

-- taken tags that rise are taken when their turn comes
pub taken_in_turn : (p : Tags) (ts : List Tag) → IsRising is_tag_below ts → AreTags p ts → ((t : Tag) → Member t ts → is_taken p t ≡ true) → AreTaken p ts
taken_in_turn p [] rises are taken = tt
taken_in_turn p (t ∷ ts) rises are taken = (
  are t (inl refl),
  taken t (inl refl),
  taken_in_turn (marked p t false) ts rises.1 (λ u m. still_tag p t u false (are u (inr m)))
      (λ u m.
      let less : t.0 < u.0 = ltb-true t.0 u.0 (rises.0 u m) in
      marked_other p t u false (are t (inl refl)) (are u (inr m)) (λ e. omega arith) ∙ taken u (inr m)),
)

-- free tags that rise are free when their turn comes
pub free_in_turn : (p : Tags) (ts : List Tag) → IsRising is_tag_below ts → AreTags p ts → ((t : Tag) → Member t ts → is_taken p t ≡ false) → AreFree p ts
free_in_turn p [] rises are free = tt
free_in_turn p (t ∷ ts) rises are free = (
  are t (inl refl),
  free t (inl refl),
  free_in_turn (marked p t true) ts rises.1 (λ u m. still_tag p t u true (are u (inr m)))
      (λ u m.
      let less : t.0 < u.0 = ltb-true t.0 u.0 (rises.0 u m) in
      marked_other p t u true (are t (inl refl)) (are u (inr m)) (λ e. omega arith) ∙ free u (inr m)),
)

-- ---- a pool and a state

module _ (s : State) where
  pub in_range : (t : Tag) → Member t (tags s) → (0 < t.0) × (t.0 ≤ s.size)
  in_range t m = let range = numbers_range (λ n. let u : Tag = record { 0 = n } in u) (λ (u : Tag). u.0) (λ n. refl) 1 s.size t m in (omega arith, omega arith)

  -- where each tag is taken that is live, and no other, the same ones are free
  pub same_free : (p : Tags) → length p.taken ≡ s.size → ((t : Tag) → Member t (tags s) → is_taken p t ≡ is_live s t) → free_tags p ≡ events.free_tags s
  same_free p size same =
      ap (λ n. filter (λ t. not (is_taken p t)) (map tag (numbers 1 n))) size
      ∙ filter_alike (λ t. not (is_taken p t)) (λ t. not (is_live s t)) (tags s) (λ t m. ap not (same t m))

  module _ (p : Tags) (pool : IsPoolOf s p) where
    pub is_tag : (t : Tag) → Member t (tags s) → IsTag p t
    is_tag t m = let range = in_range t m in let size = pool.size in record { above = range.0; within = omega (arith, range.1, size) }

    -- a tag is taken where it is live
    pub taken_is_live : (t : Tag) → Member t (tags s) → is_taken p t ≡ is_live s t
    taken_is_live t m = by (is_taken p t) (is_live s t) refl refl
      where
        listed : Member t (map tag (numbers 1 (length p.taken)))
        listed = subst (λ n. Member t (map tag (numbers 1 n))) (sym pool.size) m

        by : (b c : Bool) → is_taken p t ≡ b → is_live s t ≡ c → b ≡ c
        by true true taken live = refl
        by false false taken live = refl
        by true false taken live =
            let free : Member t (free_tags p) = subst (Member t) (sym pool.free) (Member-filter (λ u. not (is_live s u)) (tags s) t m (ap not live)) in
            absurd (clash taken (not-true (is_taken p t) (filter-Member (λ u. not (is_taken p u)) (map tag (numbers 1 (length p.taken))) t free).passes))
        by false true taken live =
            let free : Member t (events.free_tags s) = subst (Member t) pool.free (Member-filter (λ u. not (is_taken p u)) (map tag (numbers 1 (length p.taken))) t listed (ap not taken)) in
            absurd (clash live (not-true (is_live s t) (filter-Member (λ u. not (is_live s u)) (tags s) t free).passes))

module _ (s : State) (r : Routing) (pooled : TagsArePooled s) (p : Tags) (pool : IsPoolOf s p) where
  abbrev s1 : State
  s1 = retagged s r

  -- the pool with the fresh tags taken
  abbrev filled : Tags
  filled = marked_all p (group_tags s r) true

  -- the fresh tags are the least free ones of the pool
  pub tags_of_pool : group_tags s r ≡ take (length (groups s r)) (free_tags p)
  tags_of_pool = ap (take (length (groups s r))) (sym pool.free)

  fresh_tags : AreTags p (group_tags s r)
  fresh_tags t m = is_tag s p pool t (was_free s r t (listed_fresh s r t m)).pooled

  -- the fresh tags, in order, can be taken
  pub fresh_in_turn : AreFree p (group_tags s r)
  fresh_in_turn = free_in_turn p (group_tags s r) (group_tags_rise s r) fresh_tags (λ t m. let was = was_free s r t (listed_fresh s r t m) in taken_is_live s p pool t was.pooled ∙ was.unused)

  module _ (dead : List Tag) (are : AreDead s s1 dead) where
    dead_pooled : (t : Tag) → Member t dead → Member t (tags s)
    dead_pooled t m = pooled t (are.each t m).0

    dead_tags : AreTags filled dead
    dead_tags t m = let is = is_tag s p pool t (dead_pooled t m) in let same = marked_all_length p (group_tags s r) true in let within : t.0 ≤ length p.taken = is.within in record { above = is.above; within = omega (arith, same) }

    -- a dead tag is taken
    dead_taken : (t : Tag) → Member t dead → is_taken filled t ≡ true
    dead_taken t m =
        marked_others p (group_tags s r) true t fresh_tags (is_tag s p pool t (dead_pooled t m)) (λ k. clash (are.each t m).0 (was_free s r t (listed_fresh s r t k)).unused)
        ∙ taken_is_live s p pool t (dead_pooled t m) ∙ (are.each t m).0

    -- the dead tags, in order, can be given back
    pub dead_in_turn : IsRising is_tag_below dead → AreTaken filled dead
    dead_in_turn rises = taken_in_turn filled dead rises dead_tags dead_taken

    -- the pool with the dead tags given back, too
    abbrev settled : Tags
    settled = marked_all filled dead false

    settled_tag : (t : Tag) → IsTag p t → IsTag filled t
    settled_tag t is = let same = marked_all_length p (group_tags s r) true in let within : t.0 ≤ length p.taken = is.within in record { above = is.above; within = omega (arith, same) }

    -- a tag that is live, or is not, and that the plan doesn't name, is taken as before
    settled_other : (t : Tag) → Member t (tags s) → (Member t dead → ⊥) → (Member t (group_tags s r) → ⊥) → is_taken settled t ≡ is_live s t
    settled_other t m alive old =
        marked_others filled dead false t dead_tags (settled_tag t (is_tag s p pool t m)) alive ∙ marked_others p (group_tags s r) true t fresh_tags (is_tag s p pool t m) old ∙ taken_is_live s p pool t m

    settled_is_live : (t : Tag) → Member t (tags s) → is_taken settled t ≡ is_live s1 t
    settled_is_live t m = by (is_live s1 t) (is_live s t) refl refl
      where
        not_dead : is_live s1 t ≡ true → Member t dead → ⊥
        not_dead live k = clash live (are.each t k).1

        by : (b c : Bool) → is_live s1 t ≡ b → is_live s t ≡ c → is_taken settled t ≡ is_live s1 t
        by true true live before = settled_other t m (not_dead live) (λ k. clash before (was_free s r t (listed_fresh s r t k)).unused) ∙ before ∙ sym live
        by true false live before =
            marked_others filled dead false t dead_tags (settled_tag t (is_tag s p pool t m)) (not_dead live)
            ∙ marked_those p (group_tags s r) true t fresh_tags (elim (live_from_before s r t live) [ inl fresh ↦ fresh_listed s r t fresh | inr was ↦ absurd (clash was before) ])
            ∙ sym live
        by false true gone before = marked_those filled dead false t dead_tags (are.all t before gone) ∙ sym gone
        by false false gone before = settled_other t m (λ k. clash (are.each t k).0 before) (λ k. clash (fresh_live s r t (listed_fresh s r t k)) gone) ∙ before ∙ sym gone

    pub settled_length : length settled.taken ≡ length p.taken
    settled_length = marked_all_length filled dead false ∙ marked_all_length p (group_tags s r) true

    pub settled_base : settled.base ≡ p.base
    settled_base = marked_all_base filled dead false ∙ marked_all_base p (group_tags s r) true

    -- the pool is that of the state afterwards
    pub pool_then : IsPoolOf s1 settled
    pool_then = record {
      free = same_free s1 settled (settled_length ∙ pool.size) settled_is_live;
      size = settled_length ∙ pool.size;
      base = settled_base ∙ pool.base;
    }

    -- whatever its table
    pub pool_with_rules : (table : TableOf) → IsPoolOf (record s1 { table = table }) settled
    pool_with_rules table = record { free = pool_then.free; size = pool_then.size; base = pool_then.base }
