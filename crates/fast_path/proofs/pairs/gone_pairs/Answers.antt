-- A tag's pairs, by whether it comes first of those that are left that nobody was told.
use Rattle.std.proofs.Common.{◌≡◌, ◌+◌, ◌++◌, drop, get_or, sym, ap, ◌∙◌, arith}
use Rattle.net_types.specs.Sets.{union_over}
use Rattle.net_types.specs.declared.address.Tag.{Tag}
use Rattle.fast_path.specs.Pairs.{part_pairs, tag_pairs}
use Rattle.fast_path.proofs.DeadPairs.{dead_more, dead_next, told_next}
use Rattle.fast_path.proofs.Loops.{union_step}
use Rattle.fast_path.proofs.pairs.gone_pairs.Goals as goal
use Rattle.fast_path.proofs.pairs.gone_pairs.Goals.{then-stands_at+in_ok-push_senders, else-stands_at+in_ok-push_gone}

pub loop-tag-preserved : goal.loop-tag-preserved
loop-tag-preserved c =
    let names = c.args.names.now in
    let kept = c.args.classes.now.kept in
    let told = c.args.adverts.now.told in
    let ts = c.args.emptied.now in
    let ds = c.args.dead.now in
    let i = c.loop-tag.tag-index in
    let d : Tag = record { 0 = 0 } in
    elim c.if-stands_at.branch [
      | then-stands_at+in_ok-push_senders w ↦
          let dead = dead_next told ts ds i c.loop-tag.at d c.loop-tag-test.true c.loop-tag.invariant.left (sym c.stands_at.ensures ∙ w.if-stands_at.true) in
          let more = ap (λ v. v.items) w.pairs-is ∙ w.in_ok-push_senders.ensures in
          record {
            pairs = union_step (tag_pairs names kept told) ts i d c.loop-tag.pairs.items c.if-stands_at.pairs.items _ c.loop-tag-test.true c.loop-tag.invariant.pairs
                (dead_more names kept told (get_or ts i d) c.parts_of-parts.result.now c.loop-tag.pairs.items c.if-stands_at.pairs.items dead.1 c.parts_of-parts.ensures more);
            left = ap (λ n. drop n ds) w.at-is ∙ dead.2;
            within = let is : c.if-stands_at.at ≡ c.loop-tag.at + 1 = w.at-is in let less = dead.0 in omega (arith, is, less);
          }
      | else-stands_at+in_ok-push_gone w ↦
          let more = ap (λ v. v.items) w.pairs-is ∙ w.in_ok-push_gone.ensures in
          record {
            pairs = union_step (tag_pairs names kept told) ts i d c.loop-tag.pairs.items c.if-stands_at.pairs.items _ c.loop-tag-test.true c.loop-tag.invariant.pairs
                (more ∙ ap (λ vs. c.loop-tag.pairs.items ++ union_over (part_pairs names told (get_or ts i d)) vs) c.parts_of-parts.ensures);
            left = ap (λ n. drop n ds) w.at-is ∙ told_next told ts ds i c.loop-tag.at d c.loop-tag-test.true c.loop-tag.invariant.left (sym c.stands_at.ensures ∙ w.if-stands_at.false);
            within = let is : c.if-stands_at.at ≡ c.loop-tag.at = w.at-is in omega (arith, is, c.loop-tag.invariant.within);
          }
    ]
