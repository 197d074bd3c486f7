-- The blocks so far and that of the next pair.
use Rattle.std.proofs.Common.{◌≡◌, ◌+◌, length, ◌++◌, ◌∷◌, [], map, sym, ap, subst, ◌∙◌, refl, arith}
use Rattle.std.specs.Prelude.{slice_index_or}
use Rattle.net_types.proofs.MemberLemmas.{Member-at}
use Rattle.net_types.specs.Sets.{Member}
use Rattle.net_types.specs.declared.rule.Pair.{Pair}
use Rattle.fast_path.proofs.BlockLemmas.{fault_for, index_same, more_right, more_rules, pairs_more}
use Rattle.fast_path.specs.Building.{AreRightFor, site_of}
use Rattle.fast_path.specs.Committing.{block_count}
use Rattle.fast_path.specs.Plans.{pair_of}
use Rattle.fast_path.proofs.building.blocks_for.Goals as goal

pub block_beside-requires-clause-part : goal.block_beside-requires-clause-part
block_beside-requires-clause-part g c = c.requires.parts _ (Member-at c.args.pairs.now c.loop-pair.pair-index _ _ c.loop-pair-test.true refl)

pub returns-in-Err-clause-wide : goal.returns-in-Err-clause-wide
returns-in-Err-clause-wide g c =
    let before = c.loop-pair.invariant in
    fault_for (site_of c.args.names.now c.args.known.now c.args.fresh.now c.args.views.now) c.args.pairs.now c.loop-pair.pair-index _ c.loop-pair-test.true (index_same c.args.pairs.now c.loop-pair.pair-index _ c.loop-pair-test.true)
    c.loop-pair.blocks.items c.loop-pair.built c.args.room c.in-Err.fault before.pairs_are before.right before.counted c.in-Err.ensures.wide

pub loop-pair-init : goal.loop-pair-init
loop-pair-init g c =
    let none = c.new-blocks.ensures.items in record {
      pairs_are = ap (map pair_of) none;
      right = λ b stands. absurd (subst (Member b) none stands);
      counted = sym (ap block_count none);
      within = omega arith;
      last = rw none (c.new-lasts.ensures c.args.views.now);
      few = omega arith;
    }

pub loop-pair-preserved : goal.loop-pair-preserved
loop-pair-preserved g c =
    let before = c.loop-pair.invariant in
    let pairs = c.args.pairs.now in
    let at = c.loop-pair.pair-index in
    let pair : Pair = slice_index_or pairs at (record { port = record { 0 = 0 }; tag = record { 0 = 0 } }) in
    let site = site_of c.args.names.now c.args.known.now c.args.fresh.now c.args.views.now in
    let more : c.put_last.new.blocks.items ≡ c.loop-pair.blocks.items ++ (pair, c.in-Ok.block) ∷ [] = c.in_ok-put_last.ensures in record {
      pairs_are = ap (map pair_of) more ∙ pairs_more site pairs at pair c.loop-pair-test.true (index_same pairs at _ c.loop-pair-test.true) c.loop-pair.blocks.items c.in-Ok.block before.pairs_are;
      right = subst (AreRightFor site) (sym more) (more_right site c.loop-pair.blocks.items pair c.in-Ok.block before.right c.in-Ok.ensures.right);
      counted = ap (λ n. c.loop-pair.built + n) (ap length c.rules.ensures) ∙ ap (λ n. n + length c.in-Ok.block) before.counted ∙ sym (ap block_count more ∙ more_rules c.loop-pair.blocks.items pair c.in-Ok.block);
      within = (let room = c.in-Ok.ensures.room in let rules = ap length c.rules.ensures in omega (arith, room, rules));
      last = rw more (rw c.deref.ensures.value at (c.in-Ok.ensures.last pair));
      few = (let one = c.block_beside.ensures.steps in let few = before.few in omega (arith, one, few));
    }
