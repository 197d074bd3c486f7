-- The fresh tags and the pairs that go rise, and no more prefixes have tags than are touched.
use Rattle.std.proofs.Common.{◌≡◌, ◌≤◌, length, map, sym, ap, subst, ◌∙◌}
use Rattle.std.specs.Prelude.{take}
use Rattle.exchange_laws.specs.Listed.{is_pair_before}
use Rattle.net_types.proofs.OrderLemmas.{pairs_total}
use Rattle.net_types.proofs.OrderedLemmas.{ordered_rises}
use Rattle.net_types.specs.Keys.{pair_cmp}
use Rattle.net_types.specs.Sets.{IsRising}
use Rattle.fast_path.specs.Committing.{classes_of, kept_of}
use Rattle.fast_path.specs.Emptied.{emptied, emptied_of, old_tags}
use Rattle.fast_path.specs.Grouping.{Known}
use Rattle.fast_path.specs.Newly.{newly_tagged}
use Rattle.fast_path.specs.Offers.{adverts_of, declared_pids, others, tagged}
use Rattle.fast_path.specs.Pairs.{built_pairs, dropped_pairs, gone_pairs, untold}
use Rattle.fast_path.specs.Planned.{is_tag_below}
use Rattle.fast_path.specs.declared.fresh.Fresh.{Fresh}
use Rattle.next_hop_pool.specs.Free.{free_tags}
use Rattle.fast_path.proofs.FreeLemmas.{free_rise}
use Rattle.fast_path.proofs.OffersPlanned.{tagged_few}
use Rattle.fast_path.proofs.planning.drafted.Goals as goal
use Rattle.net_types.proofs.TieLemmas.{pair_tie}

pub with_tags-requires : goal.with_tags-requires
with_tags-requires c = subst (IsRising is_tag_below) (sym (c.deref-5.ensures.value ∙ c.in_ok-given.ensures)) (free_rise c.args.pool.now c.len.result)

pub built_pairs-requires : goal.built_pairs-requires
built_pairs-requires c = subst (IsRising is_pair_before) (sym (c.items-4.ensures ∙ c.in_ok-gone.ensures)) (ordered_rises pair_cmp pairs_total pair_tie _)

pub offers_of-requires : goal.offers_of-requires
offers_of-requires c = subst (λ cs. length cs ≤ length c.args.proposal.now.touched) (sym (c.items-5.ensures ∙ c.in_ok-after.ensures)) (tagged_few _ _ _ _ _)

pub returns : goal.returns
returns c =
    let p = c.args.proposal.now in
    let m = c.args.classes.now in
    let told = c.args.adverts.now.told in
    let free = free_tags c.args.pool.now in
    let changes = c.in_ok-moves.moves.changes in
    let given = c.in_ok-given.ensures ∙ ap (λ n. take n free) c.len.ensures in
    let after = c.in_ok-after.ensures ∙ (λ i. tagged (c.of-known.ensures i) c.args.groups ((c.deref.ensures.value ∙ given) i) p.touched p.sigs) in
    let had = c.in_ok-moves.ensures.left ∙ ap (λ (k : Known). old_tags k.tag changes) c.of-known.ensures in
    let left : c.in_ok-left.left.items ≡ emptied m.tag changes = c.in_ok-left.ensures ∙ ap (emptied_of m.tag) had in
    let gone = c.in_ok-gone.ensures ∙ ap (gone_pairs c.args.names.now m.kept told) (c.deref-3.ensures.value ∙ left) in
    record {
      tags = c.in_ok-moves.ensures.changes ∙ (λ i. others (c.of-known.ensures i) ((c.items.ensures ∙ after) i));
      fresh = c.in_ok-fresh.ensures ∙ (λ i. classes_of (c.items-3.ensures i) (kept_of ((c.deref-5.ensures.value ∙ given) i) (map (λ (f : Fresh). f.sig) (c.into_fresh.ensures i))));
      drops = c.in_ok-drops.ensures ∙ (λ i. dropped_pairs ((c.items-2.ensures ∙ gone) i) c.args.rebuild.now);
      built = c.in_ok-built.ensures ∙ (λ i. built_pairs c.args.names.now (c.deref-6.ensures.value i) ((c.items-4.ensures ∙ gone) i) c.args.rebuild.now);
      left = left;
      dead = c.in_ok-dead.ensures ∙ ap (untold told) (c.deref-2.ensures.value ∙ left);
      newly = c.newly-newly.ensures c.of-known.result c.items.result.now c.in_ok-moves.ensures.changes c.in_ok-moves.ensures.left ∙ ap (λ (k : Known). newly_tagged k.tag changes) c.of-known.ensures;
      offers = c.in_ok-offers.ensures ∙ ap (adverts_of p (declared_pids c.args.names.now)) (c.items-5.ensures ∙ after);
    }
