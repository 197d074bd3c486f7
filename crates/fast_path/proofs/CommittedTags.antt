-- With all changes of tags made, the prefixes have the tags that they are to have.
use Rattle.std.proofs.lemmas.Bool.{not-false}
use Rattle.std.proofs.Common.{◌≡◌, Bool, true, false, not, List, [], ◌∷◌, ◌++◌, filter, map, sym, ap, subst, ◌∙◌, refl}
use Rattle.std.specs.Prelude.{Option}
use Rattle.std.specs.FinMap.{FinMap, get, keys, same_map}
use Rattle.net_types.proofs.OrderedLemmas.{ordered_rises, ordered_same}
use Rattle.events.specs.Fits.{tag_changes}
use Rattle.events.specs.Tags.{same_tag}
use Rattle.events.specs.declared.TagChange.{TagChange}
use Rattle.exchange_laws.proofs.Lists.{clash, differing_key}
use Rattle.exchange_laws.proofs.Sames.{tags_test}
use Rattle.net_types.proofs.OrderLemmas.{prefix_tie, prefixes_total}
use Rattle.net_types.proofs.RisingLemmas.{Member-filter, filter-IsRising, filter-Member}
use Rattle.net_types.proofs.SetLemmas.{Member-map, map-Member}
use Rattle.net_types.proofs.TieLemmas.{prefix_cmp-IsAntisymmetric}
use Rattle.net_types.specs.Attributes.{same_option}
use Rattle.net_types.specs.Keys.{prefix_cmp}
use Rattle.net_types.specs.Maps.{ordered}
use Rattle.net_types.specs.Sets.{IsRising, Member}
use Rattle.net_types.specs.UpdateSpelling.{is_before}
use Rattle.net_types.specs.declared.address.Tag.{Tag}
use Rattle.net_types.specs.declared.prefix.Prefix.{Prefix}
use Rattle.prefix_classes.proofs.ChangeLemmas.{changed_prefixes_have_new_tags, other_prefixes_keep_their_tags}
use Rattle.fast_path.specs.Committing.{change_of, tags_with}
use Rattle.prefix_classes.specs.Laws.{AreRising, Change}

-- the tags of prefixes
abbrev TagsOf : Type 0
TagsOf = FinMap prefix_cmp Tag

places_of : (f : Prefix → Option Tag) (ps : List Prefix) → map (λ (c : Change). c.0) (map change_of (map (λ p. let c : TagChange = record { prefix = p; tag = f p } in c) ps)) ≡ ps
places_of f [] = refl
places_of f (p ∷ ps) = ap (λ qs. p ∷ qs) (places_of f ps)

module _ (old new : TagsOf) where
  abbrev differs : Prefix → Bool
  differs p = not (same_option same_tag (get old p) (get new p))

  abbrev places : List Prefix
  places = filter differs (ordered prefix_cmp (keys old ++ keys new))

  abbrev change_at : Prefix → TagChange
  change_at p = record { prefix = p; tag = get new p }

  -- the changes are at different prefixes, ascending
  pub changes_rise : AreRising (map change_of (tag_changes old new))
  changes_rise = subst (IsRising is_before) (sym (places_of (get new) places)) (filter-IsRising is_before differs (ordered prefix_cmp (keys old ++ keys new)) (ordered_rises prefix_cmp prefixes_total prefix_tie (keys old ++ keys new)))

  -- a prefix whose tag is another one has a key
  pub key_there : (p : Prefix) → differs p ≡ true → Member p (keys old ++ keys new)
  key_there p differ = differing_key prefix_cmp prefixes_total prefix_tie old new p (λ same. clash differ (ap not ((tags_test (get old p) (get new p)).1 same)))

  -- each change is one at a prefix whose tag is another, and has that tag
  pub record IsMade (c : TagChange) : Type 0 where
    pub differs : not (same_option same_tag (get old c.prefix) (get new c.prefix)) ≡ true
    pub tagged : c.tag ≡ get new c.prefix

  pub each_made : (c : TagChange) → Member c (tag_changes old new) → IsMade c
  each_made c m =
      let image = map-Member change_at places c m in
      subst IsMade (sym image.is) (record { differs = (filter-Member differs (ordered prefix_cmp (keys old ++ keys new)) image.of image.stands).passes; tagged = refl })

  -- with the changes made each prefix has its new tag
  pub tag_then : (p : Prefix) → get (tags_with old (tag_changes old new)) p ≡ get new p
  tag_then p = by (differs p) refl
    where
      made : (after : Option Tag) → Member (p, after) (map change_of (tag_changes old new)) → differs p ≡ true
      made after m =
          let image = map-Member change_of (tag_changes old new) (p, after) m in
          subst (λ q. differs q ≡ true) (sym (ap (λ (c : Change). c.0) image.is)) (each_made image.of image.stands).differs

      by : (b : Bool) → differs p ≡ b → get (tags_with old (tag_changes old new)) p ≡ get new p
      by true differ = changed_prefixes_have_new_tags old (map change_of (tag_changes old new)) p (get new p) changes_rise
          (Member-map change_of (tag_changes old new) (change_at p) (Member-map change_at places p
          (Member-filter differs _ p ((ordered_same prefix_cmp prefixes_total prefix_tie (keys old ++ keys new)).back p (key_there p differ)) differ)))
      by false same = other_prefixes_keep_their_tags old (map change_of (tag_changes old new)) p (λ after m. clash (made after m) same)
          ∙ (tags_test (get old p) (get new p)).0 (not-false (same_option same_tag (get old p) (get new p)) same)

  -- with the changes made the tags are those
  pub tags_then : tags_with old (tag_changes old new) ≡ new
  tags_then = same_map prefixes_total prefix_cmp-IsAntisymmetric (tags_with old (tag_changes old new)) new tag_then
