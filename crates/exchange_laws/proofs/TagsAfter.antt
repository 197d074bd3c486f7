-- The tags and the kept signatures after a line that changes the routes.
use Rattle.std.proofs.Common.{◌≡◌, ◌⊎◌, Bool, true, false, cond, sym, ap, ◌∙◌, refl, inl, inr}
use Rattle.std.specs.Prelude.{Option, Some, None, is_some}
use Rattle.std.specs.FinMap.{get, values}
use Rattle.std.specs.List.{list_any}
use Rattle.std.specs.Option.{option_and_then, option_map_or}
use Rattle.std.proofs.lemmas.Bool.{false_from_ne_true, or_cases, or_left, or_right, not-false}
use Rattle.events.specs.State.{State}
use Rattle.events.specs.Tags.{Group, fresh_tag, group_of, group_with, groups, is_carried, is_changed, is_live, kept_signature, new_tag, retagged, same_tag, tags, tells}
use Rattle.exchange_laws.proofs.FreshTags.{carried_announced, changed_have_fresh, fresh_free, group_listed, one_group}
use Rattle.exchange_laws.proofs.Lists.{clash, cond_there, get_tabulated, is_some_of}
use Rattle.exchange_laws.proofs.Sames.{signatures_test, tag_itself, tag_same, tags_test}
use Rattle.exchange_laws.specs.Fresh.{HasEnoughTags}
use Rattle.exchange_laws.specs.Retagging.{CarriedHaveTags, KeptStayLive, LiveStayKept, LiveTagsStay, SignaturesAreKept, TagsArePooled, TagsStayPooled}
use Rattle.net_types.proofs.FindLemmas.{any_at, find-IsFound, find_none}
use Rattle.net_types.proofs.OrderLemmas.{prefix_tie, prefixes_total, tags_total}
use Rattle.net_types.proofs.PassLemmas.{is_some-any, some_there}
use Rattle.net_types.proofs.TieLemmas.{tag_tie}
use Rattle.net_types.proofs.ValueLemmas.{any_value, value_at}
use Rattle.net_types.specs.Attributes.{same_option}
use Rattle.net_types.specs.Exports.{Routing}
use Rattle.net_types.specs.Keys.{prefix_cmp, tag_cmp}
use Rattle.net_types.specs.Routes.{announced}
use Rattle.net_types.specs.Sets.{Member}
use Rattle.net_types.specs.Signatures.{signature}
use Rattle.net_types.specs.declared.address.Tag.{Tag}
use Rattle.net_types.specs.declared.prefix.Prefix.{Prefix}
use Rattle.std.proofs.lemmas.Option.{same_Some}

-- ---- tags that prefixes have are live

pub live_of : (s : State) (p : Prefix) (t : Tag) → get s.tag p ≡ Some t → is_live s t ≡ true
live_of s p t is = or_left (list_any (same_tag t) (values s.tag)) (list_any (λ entries. tells entries t) s.told) (any_value prefix_cmp prefixes_total (same_tag t) s.tag p t is (tag_itself t))

-- a live tag is a prefix's, or somebody was told it
pub record HasTag (s : State) (t : Tag) : Type 0 where
  pub prefix : Prefix
  pub tagged : get s.tag prefix ≡ Some t

pub live_cases : (s : State) (t : Tag) → is_live s t ≡ true → HasTag s t ⊎ (list_any (λ entries. tells entries t) s.told ≡ true)
live_cases s t live = elim (or_cases (list_any (same_tag t) (values s.tag)) (list_any (λ entries. tells entries t) s.told) live) [
  | inl has ↦ let v = value_at prefix_cmp prefixes_total (same_tag t) s.tag has in inl (record { prefix = v.key; tagged = v.there ∙ ap Some (sym (tag_same t v.value v.passes)) })
  | inr told ↦ inr told
]

-- ---- a prefix that didn't change

-- it has a tag, for which its signature is kept
record IsUnchanged (s : State) (r : Routing) (p : Prefix) : Type 0 where
  tag : Tag
  tagged : get s.tag p ≡ Some tag
  kept : get s.kept tag ≡ Some (signature r p)

unchanged : (s : State) (r : Routing) (p : Prefix) → is_changed s r p ≡ false → IsUnchanged s r p
unchanged s r p same = by (get s.tag p) refl ((signatures_test (option_and_then (get s.kept) (get s.tag p)) (Some (signature r p))).0 (not-false _ same))
  where
    by : (o : Option Tag) → get s.tag p ≡ o → option_and_then (get s.kept) o ≡ Some (signature r p) → IsUnchanged s r p
    by None is kept = absurd (cc)
    by (Some t) is kept = record { tag = t; tagged = is; kept = kept }

-- ---- the new tags

-- where a prefix has a new tag: it is carried, and the tag is fresh or the one before
record IsNewTag (s : State) (r : Routing) (p : Prefix) (t : Tag) : Type 0 where
  carried : is_carried r p ≡ true
  from : ((is_changed s r p ≡ true) × (fresh_tag s r (group_of s r p) ≡ Some t)) ⊎ ((is_changed s r p ≡ false) × (get s.tag p ≡ Some t))

new_tag_from : (s : State) (r : Routing) (p : Prefix) (t : Tag) → new_tag s r p ≡ Some t → IsNewTag s r p t
new_tag_from s r p t e = by (is_carried r p) (is_changed s r p) refl refl e
  where
    by : (c d : Bool) → is_carried r p ≡ c → is_changed s r p ≡ d → cond c (cond d (fresh_tag s r (group_of s r p)) (get s.tag p)) None ≡ Some t → IsNewTag s r p t
    by true true is changed e = record { carried = is; from = inl (changed, e) }
    by true false is same e = record { carried = is; from = inr (same, e) }
    by false d is changed e = absurd (cc)

pub new_tag_there : (s : State) (r : Routing) → HasEnoughTags s r → (p : Prefix) → is_some (new_tag s r p) ≡ is_carried r p
new_tag_there s r enough p = by (is_carried r p) (is_changed s r p) refl refl
  where
    by : (c d : Bool) → is_carried r p ≡ c → is_changed s r p ≡ d → is_some (cond c (cond d (fresh_tag s r (group_of s r p)) (get s.tag p)) None) ≡ c
    by true true is changed = let fresh = changed_have_fresh s r enough p is changed in is_some_of (fresh_tag s r (group_of s r p)) fresh.0 fresh.1
    by true false is same = let before = unchanged s r p same in is_some_of (get s.tag p) before.tag before.tagged
    by false d is changed = refl

pub tags_are : (s : State) (r : Routing) (p : Prefix) → get (retagged s r).tag p ≡ new_tag s r p
tags_are s r p = get_tabulated prefix_cmp prefixes_total prefix_tie (new_tag s r) (announced r) (λ q there.
    let tag = some_there (new_tag s r q) there in
    carried_announced r q (new_tag_from s r q tag.0 tag.1).carried) p

pub carried_have_tags : CarriedHaveTags
carried_have_tags s r enough p = ap is_some (tags_are s r p) ∙ new_tag_there s r enough p

-- ---- the pool

pub tags_stay_pooled : TagsStayPooled
tags_stay_pooled s r pooled t live = elim (live_cases (retagged s r) t live) [
  | inl has ↦
      let from = new_tag_from s r has.prefix t (sym (tags_are s r has.prefix) ∙ has.tagged) in
      elim from.from [
        | inl fresh ↦ (fresh_free s r (group_of s r has.prefix) t fresh.1).pooled
        | inr before ↦ pooled t (live_of s has.prefix t before.1)
      ]
  | inr told ↦ pooled t (or_right (list_any (same_tag t) (values s.tag)) (list_any (λ entries. tells entries t) s.told) told)
]

-- ---- the kept signatures

-- a live tag's signature is kept, and no other's
pub kept_is : (s : State) (r : Routing) → TagsArePooled s → (t : Tag) → get (retagged s r).kept t ≡ cond (is_live (retagged s r) t) (kept_signature s r t) None
kept_is s r pooled t = get_tabulated tag_cmp tags_total tag_tie (λ u. cond (is_live (retagged s r) u) (kept_signature s r u) None) (tags s) (λ u there.
    tags_stay_pooled s r pooled u (cond_there (is_live (retagged s r) u) (kept_signature s r u) there)) t

pub kept_stay_live : KeptStayLive
kept_stay_live s r pooled t there = cond_there (is_live (retagged s r) t) (kept_signature s r t) (sym (ap is_some (kept_is s r pooled t)) ∙ there)

abbrev takes : State → Routing → Tag → Group → Bool
takes s r t g = same_option same_tag (fresh_tag s r g) (Some t)

takes_is : (s : State) (r : Routing) (t : Tag) (g : Group) → takes s r t g ≡ true → fresh_tag s r g ≡ Some t
takes_is s r t g e = (tags_test (fresh_tag s r g) (Some t)).0 e

-- a tag that was live is given to no group
old_signature : (s : State) (r : Routing) (t : Tag) → is_live s t ≡ true → kept_signature s r t ≡ get s.kept t
old_signature s r t live =
    ap (λ o. option_map_or (λ (g : Group). Some g.after) o (get s.kept t)) (find_none (takes s r t) (groups s r) (λ g m.
    false_from_ne_true (takes s r t g) (λ e. clash live (fresh_free s r g t (takes_is s r t g e)).unused)))

-- a fresh tag's signature is that of its group
fresh_signature : (s : State) (r : Routing) (g : Group) (t : Tag) → Member g (groups s r) → fresh_tag s r g ≡ Some t → kept_signature s r t ≡ Some g.after
fresh_signature s r g t m e =
    let takes_it : takes s r t g ≡ true = ap (λ o. same_option same_tag o (Some t)) e ∙ tag_itself t in
    let there = some_there (group_with s r t) (is_some-any (takes s r t) (groups s r) ∙ any_at (takes s r t) (groups s r) g m takes_it) in
    let found = find-IsFound (takes s r t) (groups s r) there.0 there.1 in
    ap (λ o. option_map_or (λ (h : Group). Some h.after) o (get s.kept t)) there.1
    ∙ ap (λ (h : Group). Some h.after) (one_group s r there.0 g found.stands m t (takes_is s r t there.0 found.passes) e)

pub live_tags_stay : LiveTagsStay
live_tags_stay s r pooled t before after = kept_is s r pooled t ∙ ap (λ b. cond b (kept_signature s r t) None) after ∙ old_signature s r t before

pub signatures_are_kept : SignaturesAreKept
signatures_are_kept s r pooled p t is =
    let from = new_tag_from s r p t (sym (tags_are s r p) ∙ is) in
    kept_is s r pooled t ∙ ap (λ b. cond b (kept_signature s r t) None) (live_of (retagged s r) p t is)
    ∙ elim from.from [
      | inl fresh ↦ fresh_signature s r (group_of s r p) t (group_listed s r p from.carried fresh.0) fresh.1
      | inr before ↦
          let same = unchanged s r p before.0 in
          old_signature s r t (live_of s p t before.1) ∙ ap (get s.kept) (same_Some t same.tag (sym before.1 ∙ same.tagged)) ∙ same.kept
    ]

-- a tag that is live is a prefix's, whose signature is kept, or was live before
pub live_stay_kept : LiveStayKept
live_stay_kept s r pooled live t is = elim (live_cases (retagged s r) t is) [
  | inl has ↦ ap is_some (signatures_are_kept s r pooled has.prefix t has.tagged)
  | inr told ↦
      let was : is_live s t ≡ true = or_right (list_any (same_tag t) (values s.tag)) (list_any (λ entries. tells entries t) s.told) told in
      ap is_some (live_tags_stay s r pooled t was is) ∙ live t was
]
