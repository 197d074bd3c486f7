-- What each step of committing requires holds of a plan.
use Rattle.std.proofs.Common.{◌≡◌, ◌<◌, ◌⊎◌, not, cond, List, [], ◌∷◌, sym, ap, subst, ◌∙◌, refl, arith, inl, inr}
use Rattle.std.specs.Prelude.{Option, Some, None, IfSome}
use Rattle.std.specs.FinMap.{FinMap, get, get-insert, insert}
use Rattle.std.specs.Ordering.{eq_by_cmp}
use Rattle.std.proofs.lemmas.Bool.{false_from_ne_true, ltb-true}
use Rattle.events.specs.Fits.{tag_changes}
use Rattle.events.specs.State.{State}
use Rattle.events.specs.Tags.{retagged}
use Rattle.exchange_laws.proofs.Lists.{clash}
use Rattle.exchange_laws.proofs.Sames.{tags_test}
use Rattle.exchange_laws.proofs.TagsAfter.{live_of}
use Rattle.exchange_laws.specs.Retagging.{KeptAreLive}
use Rattle.net_types.proofs.OrderLemmas.{tags_total}
use Rattle.net_types.proofs.TieLemmas.{tag_tie}
use Rattle.net_types.specs.Exports.{Routing}
use Rattle.net_types.specs.Keys.{tag_cmp}
use Rattle.net_types.specs.Sets.{IsRising, Member}
use Rattle.net_types.specs.declared.address.Tag.{Tag}
use Rattle.net_types.specs.declared.route.Part.{Part}
use Rattle.fast_path.proofs.CommittedFresh.{IsFresh, fresh_listed, group_tags_rise, listed_fresh, tag_from, was_free}
use Rattle.fast_path.proofs.CommittedTags.{IsMade, each_made, tags_then}
use Rattle.prefix_classes.proofs.MemberLemmas.{no_members}
use Rattle.fast_path.specs.Committing.{AreUnkept, AreUnused, HaveTags, kept_of, tags_with}
use Rattle.prefix_classes.specs.Classes.{members}
use Rattle.fast_path.specs.Planned.{group_kept, is_tag_below}
use Rattle.fast_path.specs.LiveOnly.{AreDead, group_signatures, group_tags}
use Rattle.net_types.proofs.FindLemmas.{nothing}

-- tags that rise, of which none is kept, are none that is kept when their turn comes
unkept_in_turn : (m : FinMap tag_cmp (List Part)) (ts : List Tag) (sigs : List (List Part)) → IsRising is_tag_below ts → ((t : Tag) → Member t ts → get m t ≡ None) → AreUnkept m (kept_of ts sigs)
unkept_in_turn m [] sigs rises none = tt
unkept_in_turn m (t ∷ ts) [] rises none = tt
unkept_in_turn m (t ∷ ts) (sig ∷ sigs) rises none = (
  none t (inl refl),
  unkept_in_turn (insert m t sig) ts sigs rises.1 (λ u k.
      get-insert tags_total m t sig u
      ∙ ap (λ b. cond b (Some sig) (get m u)) (false_from_ne_true (eq_by_cmp tag_cmp u t) (λ ties. apart u k (tag_tie u t ties)))
      ∙ none u (inr k)),
)
  where
    apart : (u : Tag) → Member u ts → u ≡ t → ⊥
    apart u k same = let less : t.0 < u.0 = ltb-true t.0 u.0 (rises.0 u k) in let number : u.0 ≡ t.0 = ap (λ (x : Tag). x.0) same in omega arith

module _ (s : State) (r : Routing) where
  abbrev s1 : State
  s1 = retagged s r

  -- the fresh tags are not kept
  pub fresh_unkept : KeptAreLive s → AreUnkept s.kept (group_kept s r)
  fresh_unkept kept = unkept_in_turn s.kept (group_tags s r) (group_signatures s r) (group_tags_rise s r) (λ t m.
      nothing (get s.kept t) (λ there. clash (kept t there) (was_free s r t (listed_fresh s r t m)).unused))

  -- each new tag is one of them
  pub changes_fresh : HaveTags (group_tags s r) (tag_changes s.tag s1.tag)
  changes_fresh c m = by c.tag refl
    where
      by : (o : Option Tag) → c.tag ≡ o → IfSome o (λ t. Member t (group_tags s r))
      by None is = tt
      by (Some t) is = from (tag_from s r c.prefix t tagged)
        where
          made : IsMade s.tag s1.tag c
          made = each_made s.tag s1.tag c m

          tagged : get s1.tag c.prefix ≡ Some t
          tagged = sym made.tagged ∙ is

          from : IsFresh s r t ⊎ (get s.tag c.prefix ≡ Some t) → Member t (group_tags s r)
          from (inl fresh) = fresh_listed s r t fresh
          from (inr before) = absurd (clash made.differs (ap not ((tags_test (get s.tag c.prefix) (get s1.tag c.prefix)).1 (before ∙ sym tagged))))

  -- with the changes made no prefix has a dead tag
  pub dead_unused : (dead : List Tag) → AreDead s s1 dead → AreUnused (tags_with s.tag (tag_changes s.tag s1.tag)) dead
  dead_unused dead are t m = subst (λ tags. members tags t ≡ 0) (sym (tags_then s.tag s1.tag)) ((no_members s1.tag t).1 (λ p is. clash (live_of s1 p t is) (are.each t m).1))
