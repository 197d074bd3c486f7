-- What is found by the parts of an exchange is the plan of its state: tags, and the pairs whose rules go and come.
use Rattle.std.proofs.Common.{◌≡◌, suc, ◌<◌, ◌≤◌, Bool, true, false, ◌&&◌, ◌||◌, cond, List, [], ◌∷◌, ◌++◌, length, filter, map, take, not, sym, ap, subst, ◌∙◌, refl, arith, inl, inr}
use Rattle.std.specs.Prelude.{Option, Some, None, unwrap_or}
use Rattle.std.specs.Cmp.{nat_cmp_is}
use Rattle.std.specs.FinMap.{FinMap, get}
use Rattle.std.specs.List.{list_any}
use Rattle.std.specs.Option.{option_map}
use Rattle.std.specs.Ordering.{is_lt}
use Rattle.std.specs.declared.cmp.Ordering.TheVariants.{Less}
use Rattle.std.proofs.lemmas.Bool.{false_from_ne_true, ltb-true, and_parts}
use Rattle.block_build.specs.Lent.{Lent}
use Rattle.events.specs.Fits.{tag_changes}
use Rattle.events.specs.Sound.{owners_part}
use Rattle.events.specs.State.{State, ArePolicies}
use Rattle.events.specs.Tags as events
use Rattle.events.specs.Tags.{Group, carried, groups, is_carried, is_live, is_live_pair, live_pairs, retagged, tags, tells}
use Rattle.events.specs.declared.Entry.{Entry}
use Rattle.events.specs.declared.TagChange.{TagChange}
use Rattle.exchange_laws.proofs.Counted.{live_Member, live_rise}
use Rattle.exchange_laws.proofs.FreshTags.{below, tags_rise}
use Rattle.exchange_laws.proofs.Lists.{clash}
use Rattle.exchange_laws.proofs.TagsAfter.{tags_stay_pooled}
use Rattle.exchange_laws.specs.Fresh.{HasEnoughTags}
use Rattle.exchange_laws.specs.Listed.{AreLiveOnly, AreThose, comes, goes}
use Rattle.exchange_laws.specs.Rules.{IsChange, IsRightAt, is_new}
use Rattle.exchange_laws.specs.Touched.{IsTouching}
use Rattle.exchange_laws.specs.Whole.{IsWhole}
use Rattle.fast_path.proofs.CommittedMaps.{take-IsRising}
use Rattle.fast_path.proofs.DeadTags.{untold_are_dead}
use Rattle.fast_path.proofs.EmptiedTags.{emptied_are_those}
use Rattle.fast_path.proofs.GonePairs.{gone_pairs_are_those}
use Rattle.fast_path.proofs.KnownSignatures.{Names, known_kept, sender_stays}
use Rattle.fast_path.proofs.NewlyCarried.{newly_counted}
use Rattle.fast_path.proofs.NewPairs.{HasOwners, kept_place, made, new_pairs_all, new_pairs_each, owners_found}
use Rattle.fast_path.proofs.TagOrder.{rising_tags}
use Rattle.fast_path.proofs.OffersPlanned.{offers_made}
use Rattle.fast_path.proofs.TagsPlanned.{changes_found, groups_found, known_of, tagged_are}
use Rattle.fast_path.specs.Building.{AreInOrder, HasPart, IsBlockFor, part_at, site_of}
use Rattle.fast_path.specs.Committing.{Block, class_of, classes_of, kept_of}
use Rattle.fast_path.specs.Drafts.{IsDraft, given_tags}
use Rattle.fast_path.specs.Emptied.{emptied, is_left, old_tags}
use Rattle.fast_path.specs.Grouping.{Known, groups_of, known_by, more_groups, moved_groups, part_by}
use Rattle.fast_path.specs.LiveOnly.{AreDead, AreEmptied, group_signatures, group_tags, registered}
use Rattle.fast_path.specs.Newly.{newly_tagged}
use Rattle.fast_path.specs.Offers.{AreOffers, adverts_of, declared_pids, others, tagged}
use Rattle.fast_path.specs.Pairs.{fresh_pairs, gone_pairs, is_among, pair_at, part_pairs, staying, tag_pairs, untold, was_told}
use Rattle.fast_path.specs.Planned.{group_kept, is_tag_below}
use Rattle.fast_path.specs.Plans.{IsAsked, build_count}
use Rattle.fast_path.specs.declared.draft.Draft.{Draft}
use Rattle.fast_path.specs.declared.fresh.Fresh.{Fresh}
use Rattle.fast_path.specs.declared.planned.Class.{Class}
use Rattle.block_build.specs.Installed.{Installed}
use Rattle.net_types.proofs.FindLemmas.{slice_get-Member}
use Rattle.net_types.proofs.OrderLemmas.{pairs_total, tags_total}
use Rattle.net_types.proofs.OrderedLemmas.{any_member, member_any, ordered_rises, ordered_same}
use Rattle.net_types.proofs.RisingLemmas.{Member-filter, before, before_itself, before_trans, filter-IsRising, filter-Member}
use Rattle.net_types.proofs.SetLemmas.{Member-append_cases, Member-append_left, Member-append_right, map-Member, rising_unique, union-map, union_ext}
use Rattle.net_types.specs.Answers.{Policies}
use Rattle.net_types.specs.Exports.{Routing}
use Rattle.net_types.specs.Keys.{pair_cmp, prefix_cmp, tag_cmp}
use Rattle.net_types.specs.Maps.{ordered}
use Rattle.net_types.specs.Routes.{numbers, pids}
use Rattle.net_types.specs.Sets.{IsRising, Member, union_over}
use Rattle.net_types.specs.declared.address.Pid.{Pid}
use Rattle.net_types.specs.declared.address.Tag.{Tag}
use Rattle.net_types.specs.declared.route.Part.{Part}
use Rattle.net_types.specs.declared.rule.Pair.{Pair}
use Rattle.next_hop_pool.specs.Free.{Tags, free_tags}
use Rattle.prefix_classes.specs.Classes.{Classes}
use Rattle.registry.specs.Registered.{Registered, ports_of}
use Rattle.route_server.specs.Proposed.{Proposed}
use Rattle.net_types.proofs.TieLemmas.{pair_tie, tag_tie}

class_signatures : (fs : List Fresh) → map (λ (f : Fresh). f.sig) fs ≡ map (λ (g : Group). g.after) (groups_of fs)
class_signatures [] = refl
class_signatures (f ∷ fs) = ap (λ sigs. f.sig ∷ sigs) (class_signatures fs)

class_count : (fs : List Fresh) → length (groups_of fs) ≡ length fs
class_count [] = refl
class_count (f ∷ fs) = ap suc (class_count fs)

-- ---- emptied tags ascend

emptied_rise : (m : FinMap prefix_cmp Tag) (cs : List TagChange) → IsRising is_tag_below (emptied m cs)
emptied_rise m cs = filter-IsRising is_tag_below (is_left m cs) (ordered tag_cmp (old_tags m cs)) (rising_tags (ordered tag_cmp (old_tags m cs)) (ordered_rises tag_cmp tags_total tag_tie (old_tags m cs)))

-- ---- fresh tags ascend

pub tags_before : (ts : List Tag) → IsRising below ts → IsRising (before tag_cmp) ts
tags_before [] rises = tt
tags_before (t ∷ ts) rises = (
  λ u m. let less : t.0 < u.0 = ltb-true t.0 u.0 (rises.0 u m) in ap is_lt (sym (nat_cmp_is t.0 u.0 Less less)),
  tags_before ts rises.1,
)

free_rise : (s : State) → IsRising (before tag_cmp) (events.free_tags s)
free_rise s = filter-IsRising (before tag_cmp) (λ t. not (is_live s t)) (tags s) (tags_before (tags s) (tags_rise 1 s.size))

pub classes_rise : (cs : List TagChange) (ts : List Tag) (sigs : List (List Part)) → IsRising (before tag_cmp) ts → AreInOrder (classes_of cs (kept_of ts sigs))
classes_rise cs [] sigs rises = tt
classes_rise cs (t ∷ ts) [] rises = tt
classes_rise cs (t ∷ ts) (sig ∷ sigs) rises = (
  λ c m.
      let image = map-Member (class_of cs) (kept_of ts sigs) c m in
      let place = kept_place ts sigs image.of image.stands in
      subst (λ (d : Class). is_lt (tag_cmp t d.tag) ≡ true) (sym image.is) (rises.0 image.of.0 (slice_get-Member ts place.0 image.of.0 place.1)),
  classes_rise cs ts sigs rises.1,
)

-- ---- trimmed signatures have the same pairs

module _ (reg : Registered) (told : List (FinMap prefix_cmp Entry)) (named : Names) (c : Classes) where
  part_alike : (t : Tag) (part : Part) → part_pairs reg told t (part_by named part) ≡ part_pairs reg told t part
  part_alike t part = ap (λ (who : Pid). cond (was_told told who t) [] (map (pair_at t) (ports_of reg who))) (sender_stays named part)

  tag_alike : (t : Tag) → tag_pairs reg (known_by named c).kept told t ≡ tag_pairs reg c.kept told t
  tag_alike t = ap (λ o. union_over (part_pairs reg told t) (unwrap_or o [])) (known_kept named c t) ∙ by (get c.kept t)
    where
      by : (o : Option (List Part)) → union_over (part_pairs reg told t) (unwrap_or (option_map (map (part_by named)) o) []) ≡ union_over (part_pairs reg told t) (unwrap_or o [])
      by None = refl
      by (Some sig) = union-map (part_pairs reg told t) (part_by named) sig ∙ union_ext (λ part. part_pairs reg told t (part_by named part)) (part_pairs reg told t) sig (part_alike t)

  gone_alike : (ts : List Tag) → gone_pairs reg (known_by named c).kept told ts ≡ gone_pairs reg c.kept told ts
  gone_alike ts = ap (ordered pair_cmp) (union_ext (tag_pairs reg (known_by named c).kept told) (tag_pairs reg c.kept told) ts tag_alike)

-- ---- a state

module _ (s : State) (r : Routing) (is_rebuilt : Pair → Bool) (names : Registered) (classes : Classes) (pool : Tags) (was_told : List (FinMap prefix_cmp Entry)) (switch : Installed) (all : List Lent) (p : Proposed) (rebuild : List Pair)
    (asked : IsAsked s r is_rebuilt names classes pool was_told switch all p rebuild) where
  abbrev s1 : State
  s1 = retagged s r

  abbrev known : Known
  known = known_by p.named classes

  pub touching : IsTouching s r p.touched
  touching = record { tagged = asked.base.tagged; owners = asked.base.owners; alike = asked.alike; touched = asked.proposes.touched }

  known_is : known ≡ known_of s
  known_is = λ i. record { tag = sym asked.shown.tag i; kept = sym asked.shown.kept i }

  names_are : names ≡ registered s
  names_are = λ i. record { participants = sym asked.shown.participants i; ports = sym asked.shown.ports i }

  pub free_is : length (free_tags pool) ≡ length (events.free_tags s)
  free_is = ap length (sym asked.shown.free)

  module _ (fs : List Fresh) (are : groups_of fs ≡ more_groups [] (moved_groups known p.touched p.sigs)) where
    pub groups_are : groups_of fs ≡ groups s r
    groups_are = are ∙ ap (λ k. more_groups [] (moved_groups k p.touched p.sigs)) known_is ∙ ap (λ sigs. more_groups [] (moved_groups (known_of s) p.touched sigs)) asked.proposes.sigs ∙ groups_found s r p.touched touching

    pub need_is : length fs ≡ length (groups s r)
    need_is = sym (class_count fs) ∙ ap length groups_are

    signatures_are : map (λ (f : Fresh). f.sig) fs ≡ group_signatures s r
    signatures_are = class_signatures fs ∙ ap (map (λ (g : Group). g.after)) groups_are

    module _ (room : length fs ≤ length (free_tags pool)) (draft : Draft) (is : IsDraft names classes pool was_told p fs rebuild draft) where
      pub enough : HasEnoughTags s r
      enough = let need : length fs ≡ length (groups s r) = need_is in let free : length (free_tags pool) ≡ length (events.free_tags s) = free_is in omega arith

      tags_are : given_tags pool fs ≡ group_tags s r
      tags_are = ap (λ n. take n (free_tags pool)) need_is ∙ ap (take (length (groups s r))) (sym asked.shown.free)

      pub change : IsChange s r
      change = record { tagged = asked.base.tagged; pooled = asked.base.pooled; owners = asked.base.owners; alike = asked.alike; enough = enough }

      pub changes_are : draft.tags ≡ tag_changes s.tag s1.tag
      changes_are =
          is.tags ∙ ap (λ k. others k (tagged k fs (given_tags pool fs) p.touched p.sigs)) known_is ∙ ap (λ sigs. others (known_of s) (tagged (known_of s) fs (given_tags pool fs) p.touched sigs)) asked.proposes.sigs
          ∙ changes_found s r fs (given_tags pool fs) groups_are tags_are p.touched touching

      pub fresh_are : draft.fresh.items ≡ classes_of draft.tags (group_kept s r)
      fresh_are =
          is.fresh ∙ ap (λ sigs. classes_of draft.tags (kept_of (given_tags pool fs) sigs)) signatures_are ∙ ap (λ us. classes_of draft.tags (kept_of us (group_signatures s r))) tags_are

      pub in_order : AreInOrder draft.fresh.items
      in_order = subst AreInOrder (sym fresh_are) (classes_rise draft.tags (group_tags s r) (group_signatures s r) (take-IsRising (before tag_cmp) (length (groups s r)) (events.free_tags s) (free_rise s)))

      abbrev es : List Tag
      es = emptied classes.tag draft.tags

      emptied_are : AreEmptied s s1 es
      emptied_are =
          subst (AreEmptied s s1) (sym (ap (λ m. emptied m draft.tags) (sym asked.shown.tag) ∙ ap (emptied s.tag) changes_are)) (emptied_are_those s r)

      pub emptied_listed : AreEmptied s s1 draft.emptied.items
      emptied_listed = subst (AreEmptied s s1) (sym is.left) emptied_are

      pub newly_are : draft.newly ≡ length (filter (λ q. not (is_carried s.routing q)) (carried r))
      newly_are = is.newly ∙ ap (λ m. newly_tagged m draft.tags) (sym asked.shown.tag) ∙ ap (newly_tagged s.tag) changes_are ∙ newly_counted s r asked.base.tagged.tagged enough

      pub dead_are : AreDead s s1 draft.dead.items
      dead_are = subst (AreDead s s1) (sym (is.dead ∙ ap (λ m. untold m es) (sym asked.shown.told))) (untold_are_dead s r es emptied_are)

      pub dead_rise : IsRising is_tag_below draft.dead.items
      dead_rise = subst (IsRising is_tag_below) (sym is.dead) (filter-IsRising is_tag_below (λ t. not (list_any (λ entries. tells entries t) was_told)) es (emptied_rise classes.tag draft.tags))

      abbrev gone : List Pair
      gone = gone_pairs names classes.kept was_told es

      gone_are : AreLiveOnly s s1 gone
      gone_are =
          subst (AreLiveOnly s s1)
          (sym (sym (gone_alike names was_told p.named classes es) ∙ ap (λ n. gone_pairs n known.kept was_told es) names_are ∙ ap (λ m. gone_pairs (registered s) m was_told es) (sym asked.shown.kept)
          ∙ ap (λ m. gone_pairs (registered s) s.kept m es) (sym asked.shown.told))) (gone_pairs_are_those s r es change asked.base.apart emptied_are)

      -- ---- what becomes present

      tagged_then : tagged known fs (given_tags pool fs) p.touched p.sigs ≡ map (λ q. let c : TagChange = record { prefix = q; tag = get s1.tag q } in c) p.touched
      tagged_then = ap (λ k. tagged k fs (given_tags pool fs) p.touched p.sigs) known_is ∙ ap (tagged (known_of s) fs (given_tags pool fs) p.touched) asked.proposes.sigs ∙ tagged_are s r fs (given_tags pool fs) groups_are tags_are p.touched

      pids_are : declared_pids names ≡ pids r
      pids_are = ap (λ qs. map (λ n. let who : Pid = record { 0 = n } in who) (numbers 0 (length qs))) (sym asked.shown.participants ∙ sym asked.alike.participants)

      pub offers_are : AreOffers s s1 draft.offers.items
      offers_are = subst (AreOffers s s1) (sym (is.offers ∙ ap (adverts_of p (declared_pids names)) tagged_then ∙ ap (λ whos. adverts_of p whos (map (λ q. let c : TagChange = record { prefix = q; tag = get s1.tag q } in c) p.touched)) pids_are)) (offers_made s r p touching asked.proposes.bests)

      -- ---- the pairs that go

      goes_each : (pair : Pair) → Member pair (gone ++ rebuild) → goes s s1 is_rebuilt pair ≡ true
      goes_each pair m = elim (Member-append_cases gone rebuild pair m) [
        | inl left ↦ let at = gone_are.each pair left in λ i. at.0 i && (not (at.1 i) || is_rebuilt pair)
        | inr again ↦ let at = and_parts (is_live_pair s pair) (is_rebuilt pair) (asked.rebuilt.each pair again) in (λ i. at.0 i && (not (is_live_pair s1 pair) || at.1 i)) ∙ or_true (not (is_live_pair s1 pair))
      ]
        where
          or_true : (b : Bool) → (true && (b || true)) ≡ true
          or_true true = refl
          or_true false = refl

      goes_all : (pair : Pair) → goes s s1 is_rebuilt pair ≡ true → Member pair (gone ++ rebuild)
      goes_all pair e = by (is_live_pair s1 pair) refl
        where
          parts : (is_live_pair s pair ≡ true) × ((not (is_live_pair s1 pair) || is_rebuilt pair) ≡ true)
          parts = and_parts (is_live_pair s pair) (not (is_live_pair s1 pair) || is_rebuilt pair) e

          by : (b : Bool) → is_live_pair s1 pair ≡ b → Member pair (gone ++ rebuild)
          by false dead = Member-append_left gone rebuild pair (gone_are.all pair parts.0 dead)
          by true live =
              let again : is_rebuilt pair ≡ true = sym (ap (λ b. not b || is_rebuilt pair) live) ∙ parts.1 in
              Member-append_right gone rebuild pair (asked.rebuilt.all pair (λ i. parts.0 i && again i))

      pub drops_are : AreThose (goes s s1 is_rebuilt) draft.drops
      drops_are = subst (AreThose (goes s s1 is_rebuilt)) (sym is.drops) (record {
        rising = ordered_rises pair_cmp pairs_total pair_tie (gone ++ rebuild);
        each = λ pair m. goes_each pair ((ordered_same pair_cmp pairs_total pair_tie (gone ++ rebuild)).onto pair m);
        all = λ pair e. (ordered_same pair_cmp pairs_total pair_tie (gone ++ rebuild)).back pair (goes_all pair e);
      })

      -- ---- the pairs that come

      abbrev coming : List Pair
      coming = fresh_pairs (registered s) (made s r change asked.base.apart draft.tags) ++ staying gone rebuild

      built_is : draft.built ≡ ordered pair_cmp coming
      built_is = is.built ∙ ap (λ n. ordered pair_cmp (fresh_pairs n draft.fresh.items ++ staying gone rebuild)) names_are ∙ ap (λ cs. ordered pair_cmp (fresh_pairs (registered s) cs ++ staying gone rebuild)) fresh_are

      not_gone : (pair : Pair) → is_live_pair s1 pair ≡ true → is_among gone pair ≡ false
      not_gone pair live = false_from_ne_true (is_among gone pair) (λ among. clash live (gone_are.each pair (any_member pair_cmp pairs_total pair_tie pair gone among)).1)

      comes_each : (pair : Pair) → Member pair coming → comes s s1 is_rebuilt pair ≡ true
      comes_each pair m = elim (Member-append_cases (fresh_pairs (registered s) (made s r change asked.base.apart draft.tags)) (staying gone rebuild) pair m) [
        | inl new ↦ let at = new_pairs_each s r change asked.base.apart draft.tags pair new in λ i. at.0 i && (not (at.1 i) || is_rebuilt pair)
        | inr again ↦ stays pair (filter-Member (λ q. not (is_among gone q)) rebuild pair again).stands (filter-Member (λ q. not (is_among gone q)) rebuild pair again).passes (is_live_pair s1 pair) refl
      ]
        where
          or_true : (b : Bool) → (true && (not b || true)) ≡ true
          or_true true = refl
          or_true false = refl

          stays : (pair : Pair) → Member pair rebuild → not (is_among gone pair) ≡ true → (b : Bool) → is_live_pair s1 pair ≡ b → comes s s1 is_rebuilt pair ≡ true
          stays pair stands passes true live =
              let at = and_parts (is_live_pair s pair) (is_rebuilt pair) (asked.rebuilt.each pair stands) in (λ i. live i && (not (is_live_pair s pair) || at.1 i)) ∙ or_true (is_live_pair s pair)
          stays pair stands passes false dead =
              let at = and_parts (is_live_pair s pair) (is_rebuilt pair) (asked.rebuilt.each pair stands) in
              absurd (clash passes (ap not (member_any pair_cmp pairs_total pair_tie pair gone (gone_are.all pair at.0 dead))))

      comes_all : (pair : Pair) → comes s s1 is_rebuilt pair ≡ true → Member pair coming
      comes_all pair e = by (is_live_pair s pair) refl
        where
          parts : (is_live_pair s1 pair ≡ true) × (is_new s is_rebuilt pair ≡ true)
          parts = and_parts (is_live_pair s1 pair) (is_new s is_rebuilt pair) e

          by : (b : Bool) → is_live_pair s pair ≡ b → Member pair coming
          by false dead = Member-append_left (fresh_pairs (registered s) (made s r change asked.base.apart draft.tags)) (staying gone rebuild) pair (new_pairs_all s r change asked.base.apart draft.tags pair parts.0 dead)
          by true live =
              let again : is_rebuilt pair ≡ true = sym (ap (λ b. not b || is_rebuilt pair) live) ∙ parts.1 in
              Member-append_right (fresh_pairs (registered s) (made s r change asked.base.apart draft.tags)) (staying gone rebuild) pair
              (Member-filter (λ q. not (is_among gone q)) rebuild pair (asked.rebuilt.all pair (λ i. live i && again i)) (ap not (not_gone pair parts.0)))

      pub built_are : AreThose (comes s s1 is_rebuilt) draft.built
      built_are = subst (AreThose (comes s s1 is_rebuilt)) (sym built_is) (record {
        rising = ordered_rises pair_cmp pairs_total pair_tie coming;
        each = λ pair m. comes_each pair ((ordered_same pair_cmp pairs_total pair_tie coming).onto pair m);
        all = λ pair e. (ordered_same pair_cmp pairs_total pair_tie coming).back pair (comes_all pair e);
      })

      -- they are as many as a line builds
      pub built_count : length draft.built ≡ build_count s r is_rebuilt
      built_count = ap length (rising_unique (before pair_cmp) (before_itself pair_cmp pairs_total) (before_trans pair_cmp pairs_total) draft.built (filter (comes s s1 is_rebuilt) (live_pairs s1)) built_are.rising
          (filter-IsRising (before pair_cmp) (comes s s1 is_rebuilt) (live_pairs s1) (live_rise s1)) (record {
            onto = λ pair m.
                let come = built_are.each pair m in
                Member-filter (comes s s1 is_rebuilt) (live_pairs s1) pair (live_Member s1 (tags_stay_pooled s r asked.base.pooled) pair (and_parts (is_live_pair s1 pair) (is_new s is_rebuilt pair) come).0) come;
            back = λ pair m. built_are.all pair (filter-Member (comes s s1 is_rebuilt) (live_pairs s1) pair m).passes;
          }))

      -- ---- their parts

      owners : (pair : Pair) → comes s s1 is_rebuilt pair ≡ true → HasOwners s r change asked.base.apart draft.tags known pair
      owners pair come = owners_found s r change asked.base.apart draft.tags known (sym asked.shown.kept) asked.base.whole pair (and_parts (is_live_pair s1 pair) (is_new s is_rebuilt pair) come).0

      part_is : (pair : Pair) → part_at names known draft.fresh.items pair ≡ part_at (registered s) known (made s r change asked.base.apart draft.tags) pair
      part_is pair = ap (λ n. part_at n known draft.fresh.items pair) names_are ∙ ap (λ cs. part_at (registered s) known cs pair) fresh_are

      pub parts_are : (pair : Pair) → Member pair draft.built → HasPart (site_of names known draft.fresh.items all) pair
      parts_are pair m =
          let has = owners pair (built_are.each pair m) in
          record { part = has.part; is = part_is pair ∙ has.is; whole = subst (λ n. IsWhole n has.part) (sym asked.lent) has.whole }

      pub owns : (pair : Pair) (part : Part) → comes s s1 is_rebuilt pair ≡ true → part_at names known draft.fresh.items pair ≡ Some part → owners_part s1 pair ≡ Some part
      owns pair part come at = let has = owners pair come in has.owns ∙ sym (part_is pair ∙ has.is) ∙ at

      pub block_right : (b : Block) → comes s s1 is_rebuilt b.0 ≡ true → IsBlockFor (site_of names known draft.fresh.items all) b.0 b.1 → (ps : Policies) → ArePolicies s ps → IsRightAt ps s1 b.0 b.1
      block_right b come block ps read = (block.part, owns b.0 block.part come block.is, block.right ps (asked.views ps read))
