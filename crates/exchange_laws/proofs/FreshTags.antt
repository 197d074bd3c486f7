-- Each group of changed prefixes has a fresh tag of its own.
use Rattle.std.proofs.Common.{◌≡◌, ℕ, zero, suc, ◌+◌, ◌<◌, Bool, true, false, cond, ◌&&◌, not, nat_lt, List, [], ◌∷◌, filter, length, map, sym, ap, subst, ◌∙◌, refl, arith, inl}
use Rattle.std.specs.Prelude.{Some, find, is_some, slice_get}
use Rattle.std.specs.FinMap.{get, keys}
use Rattle.std.specs.List.{position_from}
use Rattle.std.specs.Option.{option_and_then}
use Rattle.std.proofs.lemmas.Bool.{false_from_ne_true, lt-ltb, ltb-true, not-true}
use Rattle.std.proofs.lemmas.Option.{option_and_then_some, slice_get_within, same_Some}
use Rattle.net_types.proofs.OrderedLemmas.{ordered_same}
use Rattle.events.proofs.Candidates.{best_Member, candidate_exported}
use Rattle.events.specs.State.{State}
use Rattle.events.specs.Tags.{Group, carried, free_tags, fresh_tag, group_of, groups, is_carried, is_changed, is_live, same_group, tags}
use Rattle.exchange_laws.proofs.Lists.{is_some_of, key_Member, numbers_range, once_apart, one_place, place_of, position_at}
use Rattle.exchange_laws.proofs.Sames.{group_itself, group_same}
use Rattle.exchange_laws.specs.Fresh.{ChangedAreGrouped, FreeTagsRise, FreshTagsByPlace, FreshTagsDiffer, GroupsHaveFreshTags, HasEnoughTags, IsFree}
use Rattle.net_types.proofs.FindLemmas.{slice_get-Member, slice_get_some}
use Rattle.net_types.proofs.OrderLemmas.{prefix_tie, prefixes_total, routes_total}
use Rattle.net_types.proofs.PassLemmas.{some_there}
use Rattle.net_types.proofs.RisingLemmas.{Member-filter, Member-once, filter-IsRising, filter-Member}
use Rattle.net_types.proofs.SetLemmas.{Member-map}
use Rattle.net_types.proofs.TieLemmas.{route_tie}
use Rattle.net_types.proofs.WidthTests.{any_found}
use Rattle.net_types.specs.Exports.{Routing}
use Rattle.net_types.specs.Keys.{RouteKey, prefix_cmp, route_cmp}
use Rattle.net_types.specs.Routes.{announced, best, numbers, pids}
use Rattle.net_types.specs.Sets.{IsRising, Member}
use Rattle.net_types.specs.declared.address.Pid.{Pid}
use Rattle.net_types.specs.declared.address.Tag.{Tag}
use Rattle.net_types.specs.declared.prefix.Prefix.{Prefix}

-- ---- carried prefixes

-- a prefix for which somebody has a best route is announced
pub best_announced : (r : Routing) (to : Pid) (p : Prefix) → is_some (best r to p) ≡ true → Member p (announced r)
best_announced r to p has =
    let chosen = some_there (best r to p) has in
    let from = candidate_exported r to p chosen.0 (best_Member r to p chosen.0 chosen.1) in
    let key : RouteKey = record { from = chosen.0.from; prefix = p } in
    Member-map (λ (k : RouteKey). k.prefix) (keys r.routes) key
    (key_Member route_cmp routes_total route_tie r.routes key (is_some_of (get r.routes key) chosen.0.attrs from.routed))

pub carried_announced : (r : Routing) (p : Prefix) → is_carried r p ≡ true → Member p (announced r)
carried_announced r p is = let to = any_found (λ who. is_some (best r who p)) (pids r) is in best_announced r to.0 p to.1.passes

pub carried_listed : (r : Routing) (p : Prefix) → is_carried r p ≡ true → Member p (carried r)
carried_listed r p is = Member-filter (is_carried r) _ p ((ordered_same prefix_cmp prefixes_total prefix_tie (announced r)).back p (carried_announced r p is)) is

-- the group of a changed prefix is one of the groups
pub group_listed : ChangedAreGrouped
group_listed s r p is changed =
    Member-once same_group group_same _ (group_of s r p)
    (Member-map (group_of s r) _ p (Member-filter (is_changed s r) (carried r) p (carried_listed r p is) changed))

-- ---- fresh tags

pub by_place : FreshTagsByPlace
by_place s r k g at =
    ap (option_and_then (slice_get (free_tags s))) (position_at same_group group_same group_itself (groups s r) (once_apart same_group group_same group_itself _) 0 k g at)
    ∙ ap (slice_get (free_tags s)) (let same : 0 + k ≡ k = omega arith in same)

-- a fresh tag was free
pub fresh_free : (s : State) (r : Routing) (g : Group) (t : Tag) → fresh_tag s r g ≡ Some t → IsFree s t
fresh_free s r g t e =
    option_and_then_some (slice_get (free_tags s)) (position_from (same_group g) 0 (groups s r)) t e (λ k place is.
    let left = filter-Member (λ u. not (is_live s u)) (tags s) t (slice_get-Member (free_tags s) k t is) in
    record { pooled = left.stands; unused = not-true (is_live s t) left.passes })

pub group_has_fresh : GroupsHaveFreshTags
group_has_fresh s r enough g m =
    let place = place_of (groups s r) g m in
    let within : place.0 < length (groups s r) = slice_get_within (groups s r) place.0 g place.1 in
    let tag = slice_get_some (free_tags s) place.0 (omega arith) in
    let is : fresh_tag s r g ≡ Some tag.0 = by_place s r place.0 g place.1 ∙ tag.1 in
    (tag.0, is, fresh_free s r g tag.0 is)

-- and so has each prefix that changed
pub changed_have_fresh : (s : State) (r : Routing) → HasEnoughTags s r → (p : Prefix) → is_carried r p ≡ true → is_changed s r p ≡ true → (t : Tag) × (fresh_tag s r (group_of s r p) ≡ Some t) × IsFree s t
changed_have_fresh s r enough p is changed = group_has_fresh s r enough (group_of s r p) (group_listed s r p is changed)

abbrev pub below : Tag → Tag → Bool
below t u = nat_lt t.0 u.0

pub tags_rise : (low count : ℕ) → IsRising below (map (λ n. let t : Tag = record { 0 = n } in t) (numbers low count))
tags_rise low zero = tt
tags_rise low (suc count) = (
  λ u m. let range = numbers_range (λ n. let t : Tag = record { 0 = n } in t) (λ (t : Tag). t.0) (λ n. refl) (low + 1) count u m in lt-ltb low u.0 (omega arith),
  tags_rise (low + 1) count,
)

-- groups with one fresh tag are one
pub one_group : FreshTagsDiffer
one_group s r g h m n t e f =
    let j = place_of (groups s r) g m in
    let k = place_of (groups s r) h n in
    let same : j.0 ≡ k.0 = one_place below (λ x is. let less : x.0 < x.0 = ltb-true x.0 x.0 is in absurd (omega arith)) (free_tags s)
    (filter-IsRising below (λ u. not (is_live s u)) (tags s) (tags_rise 1 s.size)) j.0 k.0 t (sym (by_place s r j.0 g j.1) ∙ e) (sym (by_place s r k.0 h k.1) ∙ f) in
    same_Some g h (sym j.1 ∙ ap (slice_get (groups s r)) same ∙ k.1)

-- in a rising list the next place has the first greater one
pub next_greater : (ts : List Tag) → IsRising below ts → (k : ℕ) (t : Tag) → slice_get ts k ≡ Some t → slice_get ts (k + 1) ≡ find (below t) ts
next_greater [] rises k t at = absurd (cc)
next_greater (u ∷ ts) rises zero t at =
    let same : u ≡ t = same_Some u t at in
    head ts (λ v m. subst (λ w. below w v ≡ true) same (rises.0 v m))
    ∙ ap (λ b. cond b (Some u) (find (below t) ts)) (sym (ap (below t) same ∙ false_from_ne_true (below t t) (λ is. let less : t.0 < t.0 = ltb-true t.0 t.0 is in absurd (omega arith))))
  where
    head : (vs : List Tag) → ((v : Tag) → Member v vs → below t v ≡ true) → slice_get vs 0 ≡ find (below t) vs
    head [] all = refl
    head (v ∷ vs) all = ap (λ b. cond b (Some v) (find (below t) vs)) (sym (all v (inl refl)))
next_greater (u ∷ ts) rises (suc k) t at =
    let less : u.0 < t.0 = ltb-true u.0 t.0 (rises.0 t (slice_get-Member ts k t at)) in
    let next : suc k + 1 ≡ suc (k + 1) = omega arith in
    ap (slice_get (u ∷ ts)) next ∙ next_greater ts rises.1 k t at
    ∙ ap (λ b. cond b (Some u) (find (below t) ts)) (sym (false_from_ne_true (below t u) (λ is. let more : t.0 < u.0 = ltb-true t.0 u.0 is in absurd (omega arith))))

find_filter : {A : Type 0} (f g : A → Bool) (xs : List A) → find f (filter g xs) ≡ find (λ x. g x && f x) xs
find_filter f g [] = refl
find_filter f g (x ∷ xs) = elim (g x) as (λ b. find f (cond b (x ∷ filter g xs) (filter g xs)) ≡ cond (b && f x) (Some x) (find (λ y. g y && f y) xs)) [
  | true ↦ ap (cond (f x) (Some x)) (find_filter f g xs)
  | false ↦ find_filter f g xs
]

pub free_tags_rise : FreeTagsRise
free_tags_rise s k t at =
    next_greater (free_tags s) (filter-IsRising below (λ u. not (is_live s u)) (tags s) (tags_rise 1 s.size)) k t at
    ∙ find_filter (below t) (λ u. not (is_live s u)) (tags s)
