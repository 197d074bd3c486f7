-- An end can be committed, and what is committed is the state at the end of the job, which the reply tells.
use Rattle.std.proofs.Common.{◌≡◌, ◌<◌, ◌≤◌, Bool, true, false, cond, List, [], length, ap, sym, subst, ◌∙◌, refl}
use Rattle.std.specs.Prelude.{Some, None, unwrap_or}
use Rattle.std.specs.FinMap.{get, same_map}
use Rattle.std.proofs.lemmas.Bool.{or_left}
use Rattle.advert_queue.specs.Advertised.{Advertised}
use Rattle.block_build.specs.Installed.{Installed, rule_count}
use Rattle.events.specs.After.{merged, without_pairs}
use Rattle.events.specs.Fits.{IsFinished, added, dropped, flows_of, has_other_rules}
use Rattle.events.specs.State.{State}
use Rattle.events.specs.Tags.{is_live, tags, tells}
use Rattle.exchange_laws.proofs.ListedPairs.{gone_are_dropped, new_are_added}
use Rattle.exchange_laws.proofs.Lists.{clash}
use Rattle.exchange_laws.specs.Listed.{AreThose, HasLivePairs, comes}
use Rattle.fast_path.proofs.CommittedMaps.{get_without_others, get_without_those, without_all}
use Rattle.fast_path.proofs.CommittedPool.{is_tag, marked_all_base, marked_all_length, marked_others, marked_those, same_free, taken_in_turn, taken_is_live}
use Rattle.fast_path.proofs.CommittedSignatures.{without_is}
use Rattle.fast_path.proofs.OfferedPresent.{offered_present}
use Rattle.fast_path.proofs.PortsAndTags.{has_prefix_of}
use Rattle.fast_path.specs.Committing.{AreTaken, AreUnused, kept_without, marked_all}
use Rattle.fast_path.specs.LiveOnly.{has_prefix}
use Rattle.fast_path.specs.Offers.{AreTo, HaveRoom, offered_all}
use Rattle.fast_path.specs.Planned.{IsPoolOf}
use Rattle.job_end.proofs.EndedTables.{changed_at, pairs_at_end, same_comes, same_goes, swapped, tightened}
use Rattle.job_end.proofs.MergedTags.{tags_merged}
use Rattle.job_end.specs.Committing.{CanEnd}
use Rattle.job_end.specs.Ends.{IsEnd, ended}
use Rattle.job_end.specs.Laws.{ArePartsOf, LeadsTo, end_reply}
use Rattle.job_end.specs.Rebuilt.{IsFewer, table_with}
use Rattle.job_end.specs.declared.ended.End.{End}
use Rattle.job_laws.proofs.MergedStates.{kept_is, tag_was_live}
use Rattle.job_laws.specs.Jobs.{IsSteadyInJob}
use Rattle.net_types.proofs.OrderLemmas.{tags_total}
use Rattle.net_types.proofs.SetLemmas.{union-map}
use Rattle.net_types.proofs.TieLemmas.{tag_cmp-IsAntisymmetric, tag_tie}
use Rattle.net_types.specs.Keys.{tag_cmp}
use Rattle.net_types.specs.Sets.{Member}
use Rattle.net_types.specs.declared.address.Tag.{Tag}
use Rattle.net_types.specs.declared.rule.Pair.{Pair}
use Rattle.net_types.specs.declared.rule.Rule.{Rule}
use Rattle.next_hop_pool.specs.Free.{IsTag, Tags, is_taken}
use Rattle.prefix_classes.proofs.MemberLemmas.{no_members}
use Rattle.prefix_classes.specs.Classes.{Classes}
use Rattle.prefix_classes.specs.Merging.{IsMergeOf, moved}
use Rattle.recompile.specs.Setting.{setting_of}
use Rattle.recompile.specs.Working.{IsSwap}
use Rattle.recompile.specs.declared.swap.Swap.{Swap}
use Rattle.std.specs.List.{list_any}
use Rattle.net_types.proofs.FindLemmas.{nothing}

module _ (s : State) (swap : Swap) (end : End) (steady : IsSteadyInJob s) (is_swap : IsSwap (setting_of s) swap) (is : IsEnd s swap end) where
  abbrev s1 : State
  s1 = merged s

  -- the state at the end
  abbrev s2 : State
  s2 = ended s swap end

  -- ---- the signatures

  kept_at : (t : Tag) → get (kept_without s.kept end.dead.items) t ≡ get s1.kept t
  kept_at t = ap (λ m. get m t) (without_is s.kept end.dead.items) ∙ by (is_live s1 t) (is_live s t) refl refl
    where
      then_is : (b : Bool) → is_live s1 t ≡ b → get s1.kept t ≡ cond b (get s.kept t) None
      then_is b live = kept_is s steady.steady t ∙ ap (λ c. cond c (get s.kept t) None) live

      others : (Member t end.dead.items → ⊥) → get (without_all tag_cmp tags_total tag_tie s.kept end.dead.items) t ≡ get s.kept t
      others none = get_without_others tag_cmp tags_total tag_tie end.dead.items s.kept t none

      by : (b c : Bool) → is_live s1 t ≡ b → is_live s t ≡ c → get (without_all tag_cmp tags_total tag_tie s.kept end.dead.items) t ≡ get s1.kept t
      by true c now before = others (λ m. clash now (is.dead.each t m).1) ∙ sym (then_is true now)
      by false true gone before = get_without_those tag_cmp tags_total tag_tie end.dead.items s.kept t (is.dead.all t before gone) ∙ sym (then_is false gone)
      by false false gone never =
          others (λ m. clash (is.dead.each t m).0 never) ∙ nothing (get s.kept t) (λ has. clash (steady.steady.kept t has) never) ∙ sym (then_is false gone)

  kept_then : kept_without s.kept end.dead.items ≡ s1.kept
  kept_then = same_map tags_total tag_cmp-IsAntisymmetric (kept_without s.kept end.dead.items) s1.kept kept_at

  -- ---- the pool

  module _ (p : Tags) (pool : IsPoolOf s p) where
    dead_tags : (t : Tag) → Member t end.dead.items → IsTag p t
    dead_tags t m = is_tag s p pool t (steady.steady.pooled t (is.dead.each t m).0)

    dead_in_turn : AreTaken p end.dead.items
    dead_in_turn = taken_in_turn p end.dead.items is.rising dead_tags (λ t m. taken_is_live s p pool t (steady.steady.pooled t (is.dead.each t m).0) ∙ (is.dead.each t m).0)

    abbrev settled : Tags
    settled = marked_all p end.dead.items false

    settled_is_live : (t : Tag) → Member t (tags s) → is_taken settled t ≡ is_live s1 t
    settled_is_live t m = by (is_live s1 t) (is_live s t) refl refl
      where
        others : (Member t end.dead.items → ⊥) → is_taken settled t ≡ is_live s t
        others none = marked_others p end.dead.items false t dead_tags (is_tag s p pool t m) none ∙ taken_is_live s p pool t m

        by : (b c : Bool) → is_live s1 t ≡ b → is_live s t ≡ c → is_taken settled t ≡ is_live s1 t
        by true true now before = others (λ k. clash now (is.dead.each t k).1) ∙ before ∙ sym now
        by true false now never = absurd (clash (tag_was_live s steady.steady t now) never)
        by false true gone before = marked_those p end.dead.items false t dead_tags (is.dead.all t before gone) ∙ sym gone
        by false false gone never = others (λ k. clash (is.dead.each t k).0 never) ∙ never ∙ sym gone

    pool_then : IsPoolOf s2 settled
    pool_then =
        let long : length settled.taken ≡ length p.taken = marked_all_length p end.dead.items false in record {
          free = same_free s1 settled (long ∙ pool.size) settled_is_live;
          size = long ∙ pool.size;
          base = marked_all_base p end.dead.items false ∙ pool.base;
        }

  -- ---- it leads to the state at the end

  tags_then : moved s.tag swap.moves ≡ s1.tag
  tags_then = tags_merged s steady.steady swap.moves is_swap.moves

  pub leads_on : (classes : Classes) (pool : Tags) (switch : Installed) (adverts : Advertised) → ArePartsOf s classes pool switch adverts → LeadsTo s2 swap end classes pool switch adverts
  leads_on classes pool switch adverts parts = record {
    tag = ap (λ m. moved m swap.moves) (sym parts.tag) ∙ tags_then;
    kept = ap (λ m. kept_without m end.dead.items) (sym parts.kept) ∙ kept_then;
    pool = pool_then pool parts.pool;
    table = ap (λ m. table_with m swap.built end.gone end.changed) (sym parts.table);
    told = sym parts.told;
    present = ap (λ all. offered_all all end.offers.items) (sym parts.present) ∙ offered_present s s1 end.offers.items refl is.offers;
  }

  -- ---- what committing requires

  dead_unused : AreUnused (moved s.tag swap.moves) end.dead.items
  dead_unused t m = (no_members (moved s.tag swap.moves) t).1 (λ p at.
      let now : get s1.tag p ≡ Some t = sym (ap (λ tags. get tags p) tags_then) ∙ at in
      clash (or_left (has_prefix s1 t) (list_any (λ entries. tells entries t) s1.told) (has_prefix_of s1 p t now)) (is.dead.each t m).1)

  -- its offers are to those that were told something, be it nothing
  pub offers_known : AreTo (length s.told) end.offers.items
  offers_known o m = subst (λ n. o.who.0 < n) (sym steady.steady.told) (is.offers.each o m).0

  pub can_end : (classes : Classes) (pool : Tags) (switch : Installed) (adverts : Advertised) → ArePartsOf s classes pool switch adverts → HaveRoom adverts end.offers.items → CanEnd swap end classes pool switch adverts
  can_end classes pool switch adverts parts room = record {
    moves = subst (λ m. IsMergeOf m classes.kept swap.moves) parts.tag (subst (λ k. IsMergeOf s.tag k swap.moves) parts.kept is_swap.moves);
    unused = subst (λ m. AreUnused (moved m swap.moves) end.dead.items) parts.tag dead_unused;
    taken = dead_in_turn pool parts.pool;
    rising = is.changed.rising;
    fewer = λ pair m. subst (λ t. IsFewer (without_pairs t end.gone) swap.built pair) parts.table (swapped s swap end steady is_swap is pair m);
    few = subst (λ n. rule_count switch.table ≤ n) parts.capacity (subst (λ t. rule_count t ≤ s.capacity) parts.table steady.steady.sound.few);
    known = subst (λ all. AreTo (length all) end.offers.items) parts.told offers_known;
    offers_room = room;
  }

  -- ---- the reply

  has_live : HasLivePairs s
  has_live = steady.steady.sound.pairs

  live_then : HasLivePairs s2
  live_then = pairs_at_end s swap end steady is_swap is

  drops_told : dropped s s2 (has_other_rules s s2) ≡ end.drops
  drops_told = gone_are_dropped s s2 (has_other_rules s s2) end.drops has_live live_then (record {
    rising = is.drops.rising;
    each = λ pair m. same_goes s swap end steady is_swap is pair ∙ is.drops.each pair m;
    all = λ pair e. is.drops.all pair (sym (same_goes s swap end steady is_swap is pair) ∙ e);
  })

  abbrev rules_then : Pair → List Rule
  rules_then pair = unwrap_or (get swap.built pair) []

  those_come : AreThose (comes s s2 (has_other_rules s s2)) end.changed
  those_come = record {
    rising = is.changed.rising;
    each = λ pair m. same_comes s swap end steady is_swap is pair ∙ is.changed.each pair m;
    all = λ pair e. is.changed.all pair (sym (same_comes s swap end steady is_swap is pair) ∙ e);
  }

  rules_are : (pair : Pair) → Member pair end.changed → get s2.table pair ≡ Some (rules_then pair)
  rules_are = changed_at s swap end steady is_swap is

  adds_told : added s s2 (has_other_rules s s2) ≡ end.adds
  adds_told =
      new_are_added s s2 (has_other_rules s s2) end.changed rules_then has_live live_then those_come rules_are
      ∙ sym (union-map flows_of (λ pair. (pair, rules_then pair)) end.changed)
      ∙ sym is.adds

  pub finished : IsFinished s s2 (end_reply end)
  finished = record {
    head = refl;
    tags = is.tags;
    drops = sym drops_told;
    adds = sym adds_told;
    adverts = refl;
    asks = refl;
    frames = refl;
    tightened = tightened s swap end steady is_swap is;
  }
