-- The prefixes that changes give a tag, and that had none, are those that become carried.
use Rattle.std.proofs.Common.{◌≡◌, ℕ, ◌+◌, Bool, true, false, ◌&&◌, cond, not, List, [], ◌∷◌, ◌++◌, length, filter, map, sym, ap, ◌∙◌, refl, arith}
use Rattle.std.specs.Prelude.{Option, Some, None, is_none, is_some}
use Rattle.std.specs.FinMap.{FinMap, get, keys}
use Rattle.std.proofs.lemmas.Bool.{and_from, and_parts}
use Rattle.std.proofs.lemmas.List.Sums.{sum_by-cons}
use Rattle.events.specs.Fits.{tag_changes}
use Rattle.events.specs.State.{State}
use Rattle.events.specs.Tags.{carried, is_carried, retagged, same_tag}
use Rattle.events.specs.declared.TagChange.{TagChange}
use Rattle.exchange_laws.proofs.FreshTags.{carried_listed}
use Rattle.exchange_laws.proofs.TagsAfter.{carried_have_tags}
use Rattle.exchange_laws.specs.Fresh.{HasEnoughTags}
use Rattle.fast_path.specs.Newly.{is_newly_tagged, newly_tagged}
use Rattle.net_types.proofs.OrderLemmas.{prefix_tie, prefixes_total}
use Rattle.net_types.proofs.OrderedLemmas.{ordered_rises, ordered_same}
use Rattle.net_types.proofs.RisingLemmas.{Member-filter, before, before_itself, before_trans, filter-IsRising, filter-Member}
use Rattle.net_types.proofs.SetLemmas.{rising_unique}
use Rattle.net_types.specs.Attributes.{same_option}
use Rattle.net_types.specs.Exports.{Routing}
use Rattle.net_types.specs.Keys.{prefix_cmp}
use Rattle.net_types.specs.Maps.{ordered}
use Rattle.net_types.specs.Routes.{announced}
use Rattle.net_types.specs.declared.address.Tag.{Tag}
use Rattle.net_types.specs.declared.prefix.Prefix.{Prefix}
use Rattle.fast_path.proofs.CommittedTags.{key_there}

none_is : (o : Option Tag) → is_none o ≡ not (is_some o)
none_is None = refl
none_is (Some t) = refl

-- another tag is there where one is and none was
other_then : (o o1 : Option Tag) → (is_none o && is_some o1) ≡ true → not (same_option same_tag o o1) ≡ true
other_then None None e = cc
other_then None (Some t) e = refl
other_then (Some u) o1 e = cc

module _ (s : State) (r : Routing) (tagged : (p : Prefix) → is_some (get s.tag p) ≡ is_carried s.routing p) (enough : HasEnoughTags s r) where
  abbrev m1 : FinMap prefix_cmp Tag
  m1 = (retagged s r).tag

  abbrev change_of : Prefix → TagChange
  change_of p = record { prefix = p; tag = get m1 p }

  abbrev differs : Prefix → Bool
  differs p = not (same_option same_tag (get s.tag p) (get m1 p))

  abbrev listed : List Prefix
  listed = ordered prefix_cmp (keys s.tag ++ keys m1)

  abbrev newly : Prefix → Bool
  newly p = is_none (get s.tag p) && is_some (get m1 p)

  abbrev uncarried : Prefix → Bool
  uncarried p = not (is_carried s.routing p)

  newly_is : (p : Prefix) → newly p ≡ (uncarried p && is_carried r p)
  newly_is p =
      ap (λ b. b && is_some (get m1 p)) (none_is (get s.tag p) ∙ ap not (tagged p))
      ∙ ap (λ b. uncarried p && b) (carried_have_tags s r enough p)

  counted : (ps : List Prefix) → newly_tagged s.tag (map change_of ps) ≡ length (filter newly ps)
  counted [] = refl
  counted (p ∷ ps) = sum_by-cons (λ c. cond (is_newly_tagged s.tag c) 1 0) (change_of p) (map change_of ps) ∙ by (newly p) (newly_tagged s.tag (map change_of ps)) (counted ps)
    where
      by : (b : Bool) (n : ℕ) → n ≡ length (filter newly ps) → cond b 1 0 + n ≡ length (cond b (p ∷ filter newly ps) (filter newly ps))
      by true n e = omega (arith, e)
      by false n e = omega (arith, e)

  are_those : filter newly (filter differs listed) ≡ filter uncarried (carried r)
  are_those = rising_unique (before prefix_cmp) (before_itself prefix_cmp prefixes_total) (before_trans prefix_cmp prefixes_total) _ _
      (filter-IsRising (before prefix_cmp) newly _ (filter-IsRising (before prefix_cmp) differs _ (ordered_rises prefix_cmp prefixes_total prefix_tie (keys s.tag ++ keys m1))))
      (filter-IsRising (before prefix_cmp) uncarried _ (filter-IsRising (before prefix_cmp) (is_carried r) _ (ordered_rises prefix_cmp prefixes_total prefix_tie (announced r))))
      (record {
        onto = λ p m.
            let left = filter-Member newly (filter differs listed) p m in
            let both = and_parts (uncarried p) (is_carried r p) (sym (newly_is p) ∙ left.passes) in
            Member-filter uncarried (carried r) p (carried_listed r p both.1) both.0;
        back = λ p m.
            let left = filter-Member uncarried (carried r) p m in
            let is : is_carried r p ≡ true = (filter-Member (is_carried r) (ordered prefix_cmp (announced r)) p left.stands).passes in
            let new : newly p ≡ true = newly_is p ∙ and_from (uncarried p) (is_carried r p) left.passes is in
            let other : differs p ≡ true = other_then (get s.tag p) (get m1 p) new in
            Member-filter newly (filter differs listed) p
            (Member-filter differs listed p ((ordered_same prefix_cmp prefixes_total prefix_tie (keys s.tag ++ keys m1)).back p (key_there s.tag m1 p other)) other) new;
      })

  pub newly_counted : newly_tagged s.tag (tag_changes s.tag m1) ≡ length (filter uncarried (carried r))
  newly_counted = counted (filter differs listed) ∙ ap length are_those
