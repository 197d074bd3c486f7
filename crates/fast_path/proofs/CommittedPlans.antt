-- A plan can be committed, and what is committed is the state afterwards.
use Rattle.std.proofs.Common.{◌≡◌, ◌+◌, ◌<◌, ◌≤◌, length, Bool, true, false, map, sym, ap, subst, ◌∙◌}
use Rattle.block_build.specs.Installed.{rule_count}
use Rattle.events.specs.After.{without_pairs}
use Rattle.events.specs.State.{State}
use Rattle.events.specs.Tags.{retagged}
use Rattle.exchange_laws.specs.Editing.{IsBase}
use Rattle.exchange_laws.specs.Rules.{IsDeclaredAlike}
use Rattle.net_types.proofs.SetLemmas.{Member-map}
use Rattle.net_types.specs.Exports.{Routing}
use Rattle.net_types.specs.declared.rule.Pair.{Pair}
use Rattle.fast_path.proofs.CommittedFresh.{tags_kept}
use Rattle.fast_path.proofs.CommittedMembers.{signed_back}
use Rattle.fast_path.proofs.CommittedPool.{dead_in_turn, fresh_in_turn, pool_with_rules}
use Rattle.fast_path.proofs.CommittedRules.{rules_with}
use Rattle.fast_path.proofs.CommittedSignatures.{kept_then}
use Rattle.fast_path.proofs.CommittedSteps.{changes_fresh, dead_unused, fresh_unkept}
use Rattle.fast_path.proofs.CommittedTable.{blocks_apart, not_left}
use Rattle.fast_path.proofs.CommittedTags.{changes_rise, tags_then}
use Rattle.fast_path.proofs.OfferedPresent.{offered_present}
use Rattle.advert_queue.specs.Advertised.{Advertised}
use Rattle.prefix_classes.specs.Classes.{Classes}
use Rattle.prefix_classes.specs.Laws.{AreRising}
use Rattle.fast_path.specs.Carried.{ArePartsOf, HasRoomFor, LeadsTo}
use Rattle.fast_path.specs.Committing.{AreFree, AreTaken, AreUnkept, AreUnused, CanCommit, HaveTags, block_count, change_of, classes_of, kept_with, kept_without, marked_all, signed, tags_of, tags_with, with_blocks}
use Rattle.fast_path.specs.LiveOnly.{group_tags}
use Rattle.fast_path.specs.Offers.{AreTo, offered_all}
use Rattle.fast_path.specs.Planned.{IsPoolOf, group_kept}
use Rattle.fast_path.specs.Plans.{IsPlan, pair_of, planned}
use Rattle.fast_path.specs.declared.planned.Plan.{Plan}
use Rattle.block_build.specs.Installed.{Installed}
use Rattle.next_hop_pool.specs.Free.{Tags}

module _ (s : State) (r : Routing) (is_rebuilt : Pair → Bool) (plan : Plan) (base : IsBase s is_rebuilt) (alike : IsDeclaredAlike s.routing r) (is : IsPlan s r is_rebuilt plan) where
  abbrev s1 : State
  s1 = retagged s r

  -- the state afterwards
  abbrev s2 : State
  s2 = planned s r plan

  -- the plan's fresh tags have the signatures that the state keeps
  pub plan_signed : signed plan.fresh.items ≡ group_kept s r
  plan_signed = ap signed is.fresh ∙ signed_back plan.tags (group_kept s r)

  -- and are the state's
  pub plan_tags : tags_of (signed plan.fresh.items) ≡ group_tags s r
  plan_tags = ap tags_of plan_signed ∙ tags_kept s r is.enough

  -- ---- what is committed

  -- the tags of prefixes are those afterwards
  tags_committed : tags_with s.tag plan.tags ≡ s2.tag
  tags_committed = ap (tags_with s.tag) is.tags ∙ tags_then s.tag s1.tag

  -- so are the signatures
  kept_committed : kept_without (kept_with s.kept (signed plan.fresh.items)) plan.dead.items ≡ s2.kept
  kept_committed = ap (λ fs. kept_without (kept_with s.kept fs) plan.dead.items) plan_signed ∙ kept_then s r base.pooled base.kept plan.dead.items is.dead

  -- and the pool
  pool_committed : (p : Tags) → IsPoolOf s p → IsPoolOf s2 (marked_all (marked_all p (tags_of (signed plan.fresh.items)) true) plan.dead.items false)
  pool_committed p pool =
      subst (λ ts. IsPoolOf s2 (marked_all (marked_all p ts true) plan.dead.items false)) (sym plan_tags) (pool_with_rules s r base.pooled p pool plan.dead.items is.dead s2.table)

  -- it leads to the state afterwards
  pub leads_on : (classes : Classes) (pool : Tags) (switch : Installed) (adverts : Advertised) → ArePartsOf s plan classes pool switch adverts → LeadsTo s2 plan classes pool switch adverts
  leads_on classes pool switch adverts parts = record {
    tag = ap (λ m. tags_with m plan.tags) (sym parts.tag) ∙ tags_committed;
    kept = ap (λ m. kept_without (kept_with m (signed plan.fresh.items)) plan.dead.items) (sym parts.kept) ∙ kept_committed;
    pool = pool_committed pool parts.pool;
    table = ap (λ m. with_blocks (without_pairs m plan.drops) plan.blocks.items) (sym parts.table);
    told = sym parts.told;
    present = ap (λ all. offered_all all plan.offers.items) (sym parts.present) ∙ offered_present s s1 plan.offers.items alike.participants is.offers;
  }

  -- ---- what committing requires

  -- the rules of the blocks, and those that are left, are all rules afterwards
  few_blocks : rule_count (without_pairs s.table plan.drops) + block_count plan.blocks.items ≤ s.capacity
  few_blocks =
      let counted = rules_with plan.blocks.items (without_pairs s.table plan.drops) (blocks_apart s r is_rebuilt plan.drops plan.blocks.items base.tagged.pairs is.gone is.new)
      (λ b m. not_left s r is_rebuilt plan.drops plan.blocks.items base.tagged.pairs is.gone is.new b.0 (is.new.each b.0 (Member-map pair_of plan.blocks.items b m))) in
      subst (λ n. n ≤ s.capacity) counted is.fits

  -- its offers are to those that were told something, be it nothing
  pub offers_known : AreTo (length s.told) plan.offers.items
  offers_known o m = subst (λ n. o.who.0 < n) (sym base.told) (is.offers.each o m).0

  -- the plan can be committed to the parts that show the state, where there is room
  pub can_commit : (classes : Classes) (pool : Tags) (switch : Installed) (adverts : Advertised) → ArePartsOf s plan classes pool switch adverts → HasRoomFor plan classes switch adverts → CanCommit plan classes pool switch adverts
  can_commit classes pool switch adverts parts room = record {
    unkept = subst (λ m. AreUnkept m (signed plan.fresh.items)) parts.kept (subst (AreUnkept s.kept) (sym plan_signed) (fresh_unkept s r base.kept));
    tags_room = room.tags;
    rising = subst (λ cs. AreRising (map change_of cs)) (sym is.tags) (changes_rise s.tag s1.tag);
    fresh = subst (λ ts. HaveTags ts plan.tags) (sym plan_tags) (subst (HaveTags (group_tags s r)) (sym is.tags) (changes_fresh s r));
    members = is.fresh ∙ sym (ap (classes_of plan.tags) plan_signed);
    prefixes_room = room.prefixes;
    unused = subst (λ m. AreUnused (tags_with m plan.tags) plan.dead.items) parts.tag
        (subst (λ cs. AreUnused (tags_with s.tag cs) plan.dead.items) (sym is.tags) (dead_unused s r plan.dead.items is.dead));
    free = subst (AreFree pool) (sym plan_tags) (fresh_in_turn s r base.pooled pool parts.pool);
    taken = subst (λ ts. AreTaken (marked_all pool ts true) plan.dead.items) (sym plan_tags) (dead_in_turn s r base.pooled pool parts.pool plan.dead.items is.dead is.rising);
    pairs_room = room.pairs;
    known = subst (λ all. AreTo (length all) plan.offers.items) parts.told offers_known;
    offers_room = room.offers;
    few = subst (λ n. rule_count (without_pairs switch.table plan.drops) + block_count plan.blocks.items ≤ n) parts.capacity
        (subst (λ t. rule_count (without_pairs t plan.drops) + block_count plan.blocks.items ≤ s.capacity) parts.table few_blocks);
  }
