-- Updates that leave the routes as they were leave the tags, the signatures and the rules as they were.
use Rattle.std.proofs.Common.{◌≡◌, ℕ, ◌+◌, ◌*◌, ◌<◌, Bool, true, false, cond, ◌&&◌, ◌||◌, nat_lt, not, List, [], ◌∷◌, ◌++◌, filter, length, map, sym, ap, ◌∙◌, refl, arith, inl, inr}
use Rattle.std.specs.Prelude.{Option, Some, None, find, is_none, is_some}
use Rattle.std.specs.FinMap.{FinMap, contains_key-keys, entries, entries_sorted, get, get-entries, keys, same_map, values}
use Rattle.std.specs.FinMap.Entries.{find-where_key, is_sorted-where_key, same_entries, where_key}
use Rattle.std.specs.List.{list_any}
use Rattle.std.specs.Option.{option_map, option_map_or}
use Rattle.std.proofs.lemmas.Bool.{false_from_ne_true, ltb-true}
use Rattle.net_types.proofs.OrderedLemmas.{member_any}
use Rattle.events.specs.After.{running}
use Rattle.events.specs.Fits.{flows_of, none_rebuilt, tag_changes}
use Rattle.events.specs.Sound.{IsSound}
use Rattle.events.specs.State.{State}
use Rattle.events.specs.Tags.{Group, capped, carried, fresh_tag, group_of, groups, is_carried, is_changed, is_live, kept_signature, more_units, retagged, same_group, same_tag, tells}
use Rattle.events.specs.declared.Phase.TheVariants.{Running}
use Rattle.exchange_laws.proofs.Lists.{listed_or_none}
use Rattle.exchange_laws.proofs.Sames.{tag_itself}
use Rattle.exchange_laws.proofs.TagsAfter.{kept_is, tags_are}
use Rattle.exchange_laws.proofs.Untouched.{keeps_tag, unchanged}
use Rattle.exchange_laws.specs.Retagging.{KeptAreLive, TagsArePooled}
use Rattle.exchange_laws.specs.Rules.{IsTagged}
use Rattle.exchange_laws.specs.Unchanged.{NoGroups, NothingIsSaid, OwesFew, RoutesStay}
use Rattle.net_types.proofs.OrderLemmas.{pairs_total, prefixes_total, tags_total}
use Rattle.net_types.proofs.PassLemmas.{filter_nothing, filter_twice}
use Rattle.net_types.proofs.SameLemmas.{option_itself}
use Rattle.net_types.proofs.TieLemmas.{pair_cmp-IsAntisymmetric, pair_tie, prefix_cmp-IsAntisymmetric, tag_cmp-IsAntisymmetric}
use Rattle.net_types.specs.Attributes.{same_option}
use Rattle.net_types.specs.Keys.{pair_cmp, prefix_cmp}
use Rattle.net_types.specs.Maps.{each_once, ordered}
use Rattle.net_types.specs.Routes.{announced}
use Rattle.net_types.specs.Sets.{Member, union_over}
use Rattle.net_types.specs.declared.rule.Pair.{Pair}
use Rattle.net_types.specs.declared.rule.Rule.{Rule}

-- ---- the tags and the signatures

module _ (s : State) (tagged : IsTagged s) where
  pub none : groups s s.routing ≡ []
  none =
      ap (λ ps. each_once same_group (map (group_of s s.routing) ps))
      (filter_twice (is_changed s s.routing) (is_carried s.routing) (ordered prefix_cmp (announced s.routing))
      ∙ filter_nothing (λ q. is_carried s.routing q && is_changed s s.routing q) (ordered prefix_cmp (announced s.routing)) (λ q. unchanged s tagged s.routing q refl))

  tags_same : (retagged s s.routing).tag ≡ s.tag
  tags_same = same_map prefixes_total prefix_cmp-IsAntisymmetric (retagged s s.routing).tag s.tag (λ p. tags_are s s.routing p ∙ keeps_tag s tagged s.routing p refl)

  -- nothing is carried that wasn't, and there are no groups
  no_more : more_units s s.routing ≡ 0
  no_more =
      let known : filter (λ p. not (is_carried s.routing p)) (carried s.routing) ≡ [] =
      filter_twice (λ p. not (is_carried s.routing p)) (is_carried s.routing) (ordered prefix_cmp (announced s.routing))
      ∙ filter_nothing (λ p. is_carried s.routing p && not (is_carried s.routing p)) (ordered prefix_cmp (announced s.routing)) (λ p. never (is_carried s.routing p)) in
      ap (λ ps. length ps + length (groups s s.routing) * (length s.routing.ports + 1)) known
      ∙ ap (λ (gs : List Group). 0 + length gs * (length s.routing.ports + 1)) none ∙ nothing (length s.routing.ports)
    where
      never : (b : Bool) → (b && not b) ≡ false
      never true = refl
      never false = refl

      nothing : (n : ℕ) → 0 + 0 * (n + 1) ≡ 0
      nothing n = omega arith

  -- a job owes no more
  owes_same : (o : Option ℕ) → OwesFew o → (more : ℕ) → more ≡ 0 → option_map (λ n. capped (n + more)) o ≡ o
  owes_same None few more is = refl
  owes_same (Some n) few more is =
      let same : n + more ≡ n = omega arith in
      let below : nat_lt 1125899906842624 n ≡ false = false_from_ne_true (nat_lt 1125899906842624 n) (λ less. let over : 1125899906842624 < n = ltb-true 1125899906842624 n less in absurd (omega arith)) in
      ap (λ m. Some (capped m)) same ∙ ap (λ b. Some (cond b 1125899906842624 n)) below

  module _ (pooled : TagsArePooled s) (kept : KeptAreLive s) where
    kept_same : (retagged s s.routing).kept ≡ s.kept
    kept_same = same_map tags_total tag_cmp-IsAntisymmetric (retagged s s.routing).kept s.kept (λ t.
        kept_is s s.routing pooled t
        ∙ ap (λ m. cond (list_any (same_tag t) (values m) || list_any (λ entries. tells entries t) s.told) (kept_signature s s.routing t) None) tags_same
        ∙ ap (λ gs. cond (is_live s t) (option_map_or (λ (g : Group). Some g.after) (find (λ g. same_option same_tag (fresh_tag s s.routing g) (Some t)) gs) (get s.kept t)) None) none
        ∙ listed_or_none (is_live s t) (get s.kept t) (kept t))

    pub stays : OwesFew s.owed → retagged s s.routing ≡ running s
    stays few = λ i. record s { phase = Running; tag = tags_same i; kept = kept_same i; owed = owes_same s.owed few (more_units s s.routing) no_more i }

pub no_groups : NoGroups
no_groups s tagged = none s tagged

pub routes_stay : RoutesStay
routes_stay s tagged pooled kept few = stays s tagged pooled kept few

-- ---- the reply

filter_none : {A : Type 0} (test : A → Bool) (xs : List A) → ((x : A) → Member x xs → test x ≡ false) → filter test xs ≡ []
filter_none test [] h = refl
filter_none test (x ∷ xs) h = ap (λ b. cond b (x ∷ filter test xs) (filter test xs)) (h x (inl refl)) ∙ filter_none test xs (λ y m. h y (inr m))

there_or_new : {A : Type 0} (o : Option A) → is_some o ≡ true → (is_none o || false) ≡ false
there_or_new None e = cc
there_or_new (Some x) e = refl

nothing_dropped : (t : FinMap pair_cmp (List Rule)) → filter (λ q. is_none (get t q) || none_rebuilt q) (keys t) ≡ []
nothing_dropped t = filter_none (λ q. is_none (get t q) || none_rebuilt q) (keys t) (λ q m.
    there_or_new (get t q) (contains_key-keys t q ∙ member_any pair_cmp pairs_total pair_tie q (keys t) m))

nothing_added : (t : FinMap pair_cmp (List Rule)) → where_key pair_cmp (λ q. is_none (get t q) || none_rebuilt q) (entries t) ≡ []
nothing_added t =
    let is_added : Pair → Bool = λ q. is_none (get t q) || none_rebuilt q in
    same_entries pair_cmp pairs_total pair_cmp-IsAntisymmetric (where_key pair_cmp (λ q. is_none (get t q) || none_rebuilt q) (entries t)) []
    (is_sorted-where_key pair_cmp (λ q. is_none (get t q) || none_rebuilt q) (entries t) (entries_sorted t)) tt (λ q.
    find-where_key pair_cmp (λ x. is_none (get t x) || none_rebuilt x) q (λ x e. ap (λ y. is_none (get t y) || none_rebuilt y) (sym (pair_cmp-IsAntisymmetric q x e))) (entries t)
    ∙ ap (λ o. cond (is_none (get t q) || none_rebuilt q) o None) (sym (get-entries t q))
    ∙ by (get t q))
  where
    by : (o : Option (List Rule)) → let nothing : Option (List Rule) = None in cond (is_none o || false) o nothing ≡ nothing
    by None = refl
    by (Some x) = refl

pub nothing_is_said : NothingIsSaid
nothing_is_said s s1 table tag = record {
  head = refl;
  tags = sym (ap (λ m. tag_changes s.tag m) tag ∙ ap (map _) (filter_nothing (λ p. not (same_option same_tag (get s.tag p) (get s.tag p))) (ordered prefix_cmp (keys s.tag ++ keys s.tag)) (λ p. ap not (option_itself same_tag tag_itself (get s.tag p)))));
  drops = sym (ap (λ (t : FinMap pair_cmp (List Rule)). filter (λ q. is_none (get t q) || none_rebuilt q) (keys s.table)) table ∙ nothing_dropped s.table);
  adds = sym (ap (λ t. union_over flows_of (filter (λ (e : Pair × List Rule). is_none (get s.table e.0) || none_rebuilt e.0) (entries t))) table ∙ ap (union_over flows_of) (nothing_added s.table));
  adverts = refl;
  asks = refl;
  frames = refl;
}

pub running_sound : (s : State) → IsSound s → IsSound (running s)
running_sound s sound = record {
  pairs = sound.pairs;
  right = (sound.right.0, record { names = sound.right.1.names; outbound = sound.right.1.outbound; inbound = sound.right.1.inbound }, sound.right.2);
  few = sound.few;
  tagged = sound.tagged;
  kept = sound.kept;
}
