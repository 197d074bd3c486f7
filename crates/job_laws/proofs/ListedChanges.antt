-- The changes of tags that a reply lists.
use Rattle.std.proofs.Common.{◌≡◌, Bool, true, false, not, List, [], ◌∷◌, ◌++◌, filter, map, ap, sym, subst, ◌∙◌, refl, inl, inr}
use Rattle.std.specs.FinMap.{FinMap, get, keys}
use Rattle.events.specs.Fits.{tag_changes}
use Rattle.events.specs.Tags.{same_tag}
use Rattle.events.specs.declared.TagChange.{TagChange}
use Rattle.exchange_laws.proofs.Lists.{clash, differing_key}
use Rattle.exchange_laws.proofs.Sames.{tags_test}
use Rattle.job_laws.specs.Changes.{AreChanges, ChangesAreListed, is_change_before}
use Rattle.net_types.proofs.OrderLemmas.{prefix_tie, prefixes_total}
use Rattle.net_types.proofs.OrderedLemmas.{ordered_rises, ordered_same}
use Rattle.net_types.proofs.RisingLemmas.{Member-filter, before, before_itself, before_trans, filter-IsRising, filter-Member}
use Rattle.net_types.proofs.SetLemmas.{Member-map, map-Member, rising_unique}
use Rattle.net_types.specs.Attributes.{same_option}
use Rattle.net_types.specs.Keys.{prefix_cmp}
use Rattle.net_types.specs.Maps.{ordered}
use Rattle.net_types.specs.Sets.{IsRising, Member}
use Rattle.net_types.specs.declared.address.Tag.{Tag}
use Rattle.net_types.specs.declared.prefix.Prefix.{Prefix}

abbrev prefix_of : TagChange → Prefix
prefix_of c = c.prefix

-- changes in order have prefixes in order
prefixes_rise : (cs : List TagChange) → IsRising is_change_before cs → IsRising (before prefix_cmp) (map prefix_of cs)
prefixes_rise [] rises = tt
prefixes_rise (c ∷ cs) rises = (
  λ p m. let image = map-Member prefix_of cs p m in subst (λ q. before prefix_cmp c.prefix q ≡ true) (sym image.is) (rises.0 image.of image.stands),
  prefixes_rise cs rises.1,
)

module _ (old new : FinMap prefix_cmp Tag) where
  abbrev change_at : Prefix → TagChange
  change_at p = record { prefix = p; tag = get new p }

  abbrev differ : Prefix → Bool
  differ p = not (same_option same_tag (get old p) (get new p))

  -- all prefixes that have or had a tag, in order
  abbrev known : List Prefix
  known = ordered prefix_cmp (keys old ++ keys new)

  -- changes are their prefixes with the new tags
  rebuilt : (cs : List TagChange) → ((c : TagChange) → Member c cs → get new c.prefix ≡ c.tag) → map change_at (map prefix_of cs) ≡ cs
  rebuilt [] now = refl
  rebuilt (c ∷ cs) now =
      ap (λ o. (let x : TagChange = record { prefix = c.prefix; tag = o } in x) ∷ map change_at (map prefix_of cs)) (now c (inl refl))
      ∙ ap (λ ds. c ∷ ds) (rebuilt cs (λ d m. now d (inr m)))

  equal_not : (p : Prefix) → get old p ≡ get new p → differ p ≡ false
  equal_not p same = ap not ((tags_test (get old p) (get new p)).1 same)

  differs_from : (p : Prefix) → ¬ get old p ≡ get new p → differ p ≡ true
  differs_from p apart = by (same_option same_tag (get old p) (get new p)) refl
    where
      by : (b : Bool) → same_option same_tag (get old p) (get new p) ≡ b → not b ≡ true
      by true is = absurd (apart ((tags_test (get old p) (get new p)).0 is))
      by false is = refl

  -- a prefix that has another tag has or had one
  known_Member : (p : Prefix) → differ p ≡ true → Member p known
  known_Member p apart =
      (ordered_same prefix_cmp prefixes_total prefix_tie (keys old ++ keys new)).back p
      (differing_key prefix_cmp prefixes_total prefix_tie old new p (λ same. clash apart (equal_not p same)))

  pub listed : (changes : List TagChange) → AreChanges old new changes → tag_changes old new ≡ changes
  listed changes are =
      let those : filter differ known ≡ map prefix_of changes =
      rising_unique (before prefix_cmp) (before_itself prefix_cmp prefixes_total) (before_trans prefix_cmp prefixes_total) (filter differ known) (map prefix_of changes)
      (filter-IsRising (before prefix_cmp) differ known (ordered_rises prefix_cmp prefixes_total prefix_tie (keys old ++ keys new))) (prefixes_rise changes are.rising) (record {
        onto = λ p m.
            let c = are.all p (λ same. clash (filter-Member differ known p m).passes (equal_not p same)) in
            subst (λ q. Member q (map prefix_of changes)) c.2 (Member-map prefix_of changes c.0 c.1);
        back = λ p m.
            let image = map-Member prefix_of changes p m in
            let c : TagChange = image.of in
            let apart : differ c.prefix ≡ true = differs_from c.prefix (λ same. are.differs c image.stands (same ∙ are.now c image.stands)) in
            subst (λ q. Member q (filter differ known)) (sym image.is) (Member-filter differ known c.prefix (known_Member c.prefix apart) apart);
      }) in
      ap (map change_at) those ∙ rebuilt changes are.now

pub changes_are_listed : ChangesAreListed
changes_are_listed old new changes are = listed old new changes are
