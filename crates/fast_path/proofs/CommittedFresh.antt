-- The fresh tags: each stands beside its group, and is live afterwards with its group's signature.
use Rattle.std.proofs.Common.{◌≡◌, ◌≤◌, ℕ, zero, suc, ◌<◌, ◌⊎◌, Bool, true, false, cond, List, [], ◌∷◌, filter, length, map, not, sym, ap, ◌∙◌, refl, arith, inl, inr}
use Rattle.std.specs.Prelude.{Some, None, slice_get}
use Rattle.std.specs.FinMap.{get, values}
use Rattle.std.specs.List.{list_any}
use Rattle.std.specs.Option.{option_map}
use Rattle.std.proofs.lemmas.Bool.{or_right}
use Rattle.std.proofs.lemmas.List.{length-map, length-take-le}
use Rattle.std.proofs.lemmas.Option.{slice_get-map, slice_get_within, same_Some}
use Rattle.events.specs.State.{State}
use Rattle.events.specs.Tags.{Group, carried, free_tags, fresh_tag, group_of, groups, is_carried, is_changed, is_live, retagged, same_group, same_tag, tags, tells}
use Rattle.exchange_laws.proofs.FreshTags.{by_place, fresh_free, group_listed, tags_rise}
use Rattle.exchange_laws.proofs.Lists.{place_of}
use Rattle.exchange_laws.proofs.TagsAfter.{live_cases, live_of, signatures_are_kept, tags_are}
use Rattle.exchange_laws.specs.Fresh.{HasEnoughTags, IsFree}
use Rattle.exchange_laws.specs.Retagging.{TagsArePooled}
use Rattle.net_types.proofs.FindLemmas.{slice_get-Member, slice_get_some}
use Rattle.net_types.proofs.RisingLemmas.{filter-IsRising, filter-Member, once_of}
use Rattle.net_types.proofs.SetLemmas.{map-Member}
use Rattle.net_types.specs.Exports.{Routing}
use Rattle.net_types.specs.Keys.{prefix_cmp}
use Rattle.net_types.specs.Maps.{ordered}
use Rattle.net_types.specs.Routes.{announced}
use Rattle.net_types.specs.Sets.{IsRising, Member}
use Rattle.net_types.specs.Signatures.{signature}
use Rattle.net_types.specs.declared.address.Tag.{Tag}
use Rattle.net_types.specs.declared.prefix.Prefix.{Prefix}
use Rattle.net_types.specs.declared.route.Part.{Part}
use Rattle.fast_path.proofs.CommittedMaps.{get_front, get_taken, take-IsRising}
use Rattle.fast_path.specs.Committing.{Kept, kept_of, tags_of}
use Rattle.fast_path.specs.Planned.{group_kept, is_tag_below}
use Rattle.fast_path.specs.LiveOnly.{group_signatures, group_tags}

-- ---- tags with signatures

-- where a tag with its signature comes from
pub record IsKeptAt (ts : List Tag) (sigs : List (List Part)) (e : Kept) : Type 0 where
  pub place : ℕ
  pub tagged : slice_get ts place ≡ Some e.0
  pub signed : slice_get sigs place ≡ Some e.1

pub kept_at : (ts : List Tag) (sigs : List (List Part)) (e : Kept) → Member e (kept_of ts sigs) → IsKeptAt ts sigs e
kept_at [] sigs e m = elim m [ ]
kept_at (t ∷ ts) [] e m = elim m [ ]
kept_at (t ∷ ts) (sig ∷ sigs) e (inl is) = record { place = 0; tagged = ap (λ (x : Kept). Some x.0) (sym is); signed = ap (λ (x : Kept). Some x.1) (sym is) }
kept_at (t ∷ ts) (sig ∷ sigs) e (inr m) = let later = kept_at ts sigs e m in record { place = suc later.place; tagged = later.tagged; signed = later.signed }

pub kept_there : (ts : List Tag) (sigs : List (List Part)) (k : ℕ) (t : Tag) (sig : List Part) → slice_get ts k ≡ Some t → slice_get sigs k ≡ Some sig → Member (t, sig) (kept_of ts sigs)
kept_there [] sigs k t sig tagged signed = absurd (cc)
kept_there (u ∷ ts) [] k t sig tagged signed = absurd (cc)
kept_there (u ∷ ts) (x ∷ sigs) zero t sig tagged signed = inl (λ i. (same_Some t u (sym tagged) i, same_Some sig x (sym signed) i))
kept_there (u ∷ ts) (x ∷ sigs) (suc k) t sig tagged signed = inr (kept_there ts sigs k t sig tagged signed)

pub kept_length : (ts : List Tag) (sigs : List (List Part)) → length ts ≡ length sigs → length (kept_of ts sigs) ≡ length sigs
kept_length [] [] same = refl
kept_length [] (sig ∷ sigs) same = absurd (omega arith)
kept_length (t ∷ ts) [] same = absurd (omega arith)
kept_length (t ∷ ts) (sig ∷ sigs) same = ap suc (kept_length ts sigs (omega arith))

-- the tags are those, where there is a signature for each
pub tags_back : (ts : List Tag) (sigs : List (List Part)) → length ts ≤ length sigs → tags_of (kept_of ts sigs) ≡ ts
tags_back [] sigs few = refl
tags_back (t ∷ ts) [] few = absurd (omega arith)
tags_back (t ∷ ts) (sig ∷ sigs) few = ap (λ us. t ∷ us) (tags_back ts sigs (omega arith))

module _ (s : State) (r : Routing) where
  abbrev s1 : State
  s1 = retagged s r

  -- the tag is the free one at the place of a group
  pub record IsFresh (t : Tag) : Type 0 where
    pub place : ℕ
    pub group : Group
    pub grouped : slice_get (groups s r) place ≡ Some group
    pub free : slice_get (free_tags s) place ≡ Some t

  -- and there is a prefix of the group, which has the tag afterwards
  pub record HasFresh (t : Tag) (g : Group) : Type 0 where
    pub prefix : Prefix
    pub tagged : get s1.tag prefix ≡ Some t
    pub signed : signature r prefix ≡ g.after

  pub fresh_listed : (t : Tag) → IsFresh t → Member t (group_tags s r)
  fresh_listed t is =
      let within : is.place < length (groups s r) = slice_get_within (groups s r) is.place is.group is.grouped in
      slice_get-Member (group_tags s r) is.place t (get_front (length (groups s r)) (free_tags s) is.place within ∙ is.free)

  fresh_at : (k : ℕ) (t : Tag) → slice_get (group_tags s r) k ≡ Some t → IsFresh t
  fresh_at k t at =
      let front = get_taken (length (groups s r)) (free_tags s) k t at in
      let group = slice_get_some (groups s r) k front.0 in
      record { place = k; group = group.0; grouped = group.1; free = front.1 }

  pub listed_fresh : (t : Tag) → Member t (group_tags s r) → IsFresh t
  listed_fresh t m = let at = place_of (group_tags s r) t m in fresh_at at.0 t at.1

  -- the tag that a group gets
  fresh_of : (g : Group) (t : Tag) → Member g (groups s r) → fresh_tag s r g ≡ Some t → IsFresh t
  fresh_of g t m is =
      let at = place_of (groups s r) g m in
      record { place = at.0; group = g; grouped = at.1; free = sym (by_place s r at.0 g at.1) ∙ is }

  given : (t : Tag) (is : IsFresh t) → fresh_tag s r is.group ≡ Some t
  given t is = by_place s r is.place is.group is.grouped ∙ is.free

  -- it was free
  pub was_free : (t : Tag) → IsFresh t → IsFree s t
  was_free t is = fresh_free s r is.group t (given t is)

  pub has_fresh : (t : Tag) (is : IsFresh t) → HasFresh t is.group
  has_fresh t is =
      let listed = once_of same_group (map (group_of s r) (filter (is_changed s r) (carried r))) is.group (slice_get-Member (groups s r) is.place is.group is.grouped) in
      let image = map-Member (group_of s r) (filter (is_changed s r) (carried r)) is.group listed in
      let outer = filter-Member (is_changed s r) (carried r) image.of image.stands in
      let inner = filter-Member (is_carried r) (ordered prefix_cmp (announced r)) image.of outer.stands in
      record {
        prefix = image.of;
        tagged = tags_are s r image.of ∙ ap (λ b. cond b (cond (is_changed s r image.of) (fresh_tag s r (group_of s r image.of)) (get s.tag image.of)) None) inner.passes
            ∙ ap (λ b. cond b (fresh_tag s r (group_of s r image.of)) (get s.tag image.of)) outer.passes
            ∙ ap (fresh_tag s r) (sym image.is) ∙ given t is;
        signed = ap (λ (g : Group). g.after) (sym image.is);
      }

  -- it is live afterwards
  pub fresh_live : (t : Tag) → IsFresh t → is_live s1 t ≡ true
  fresh_live t is = let has = has_fresh t is in live_of s1 has.prefix t has.tagged

  -- with its group's signature
  pub fresh_kept : TagsArePooled s → (t : Tag) (is : IsFresh t) → get s1.kept t ≡ Some is.group.after
  fresh_kept pooled t is = let has = has_fresh t is in signatures_are_kept s r pooled has.prefix t has.tagged ∙ ap Some has.signed

  -- a prefix's tag is fresh, or it is the one before
  pub tag_from : (p : Prefix) (t : Tag) → get s1.tag p ≡ Some t → IsFresh t ⊎ (get s.tag p ≡ Some t)
  tag_from p t is = by (is_carried r p) (is_changed s r p) refl refl (sym (tags_are s r p) ∙ is)
    where
      by : (c d : Bool) → is_carried r p ≡ c → is_changed s r p ≡ d → cond c (cond d (fresh_tag s r (group_of s r p)) (get s.tag p)) None ≡ Some t → IsFresh t ⊎ (get s.tag p ≡ Some t)
      by true true carries changed e = inl (fresh_of (group_of s r p) t (group_listed s r p carries changed) e)
      by true false carries same e = inr e
      by false d carries changed e = absurd (cc)

  -- a live tag is fresh, or was live
  pub live_from_before : (t : Tag) → is_live s1 t ≡ true → IsFresh t ⊎ (is_live s t ≡ true)
  live_from_before t live = elim (live_cases s1 t live) [
    | inl has ↦ elim (tag_from has.prefix t has.tagged) [ inl fresh ↦ inl fresh | inr before ↦ inr (live_of s has.prefix t before) ]
    | inr told ↦ inr (or_right (list_any (same_tag t) (values s.tag)) (list_any (λ entries. tells entries t) s.told) told)
  ]

  -- ---- the lists

  -- they rise
  pub group_tags_rise : IsRising is_tag_below (group_tags s r)
  group_tags_rise = take-IsRising is_tag_below (length (groups s r)) (free_tags s) (filter-IsRising is_tag_below (λ t. not (is_live s t)) (tags s) (tags_rise 1 s.size))

  -- each with its signature is what is kept afterwards
  pub each_kept : TagsArePooled s → (e : Kept) → Member e (group_kept s r) → get s1.kept e.0 ≡ Some e.1
  each_kept pooled e m =
      let at = kept_at (group_tags s r) (group_signatures s r) e m in
      let front = get_taken (length (groups s r)) (free_tags s) at.place e.0 at.tagged in
      let group = slice_get_some (groups s r) at.place front.0 in
      let is : IsFresh e.0 = record { place = at.place; group = group.0; grouped = group.1; free = front.1 } in
      let signed : Some is.group.after ≡ Some e.1 = sym (ap (option_map (λ (g : Group). g.after)) is.grouped) ∙ sym (slice_get-map (λ (g : Group). g.after) (groups s r) at.place) ∙ at.signed in
      fresh_kept pooled e.0 is ∙ signed

  pub fresh_with_signature : (t : Tag) (is : IsFresh t) → Member (t, is.group.after) (group_kept s r)
  fresh_with_signature t is =
      let within : is.place < length (groups s r) = slice_get_within (groups s r) is.place is.group is.grouped in
      kept_there (group_tags s r) (group_signatures s r) is.place t is.group.after (get_front (length (groups s r)) (free_tags s) is.place within ∙ is.free)
      (slice_get-map (λ (g : Group). g.after) (groups s r) is.place ∙ ap (option_map (λ (g : Group). g.after)) is.grouped)

  -- there is one for each group
  pub kept_count : HasEnoughTags s r → length (group_kept s r) ≡ length (groups s r)
  kept_count enough =
      let tags_are : length (group_tags s r) ≡ length (groups s r) = length-take-le (length (groups s r)) (free_tags s) enough in
      let signatures_are : length (group_signatures s r) ≡ length (groups s r) = length-map (groups s r) (λ (g : Group). g.after) in
      kept_length (group_tags s r) (group_signatures s r) (tags_are ∙ sym signatures_are) ∙ signatures_are

  -- their tags are the fresh ones
  pub tags_kept : HasEnoughTags s r → tags_of (group_kept s r) ≡ group_tags s r
  tags_kept enough =
      let tags_are : length (group_tags s r) ≡ length (groups s r) = length-take-le (length (groups s r)) (free_tags s) enough in
      let signatures_are : length (group_signatures s r) ≡ length (groups s r) = length-map (groups s r) (λ (g : Group). g.after) in
      tags_back (group_tags s r) (group_signatures s r) (omega arith)
