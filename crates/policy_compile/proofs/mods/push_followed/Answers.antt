use Rattle.std.proofs.Common.{refl, ap, sym, ◌∙◌, ◌+◌, ◌∷◌, [], map, drop}
use Rattle.indexmap.specs.IndexSet.{insert_key}
use Rattle.policy_compile.specs.Sets.{adds, same_fields, after}
use Rattle.policy_compile.proofs.SetsLemmas.{blank, adds_more}
use Rattle.policy_compile.proofs.mods.push_followed.Goals as goal

pub loop-next-preserved : goal.loop-next-preserved
loop-next-preserved c =
    let first = c.args.first.now in
    let nexts = c.args.nexts.now in
    let rest = map (after first) (drop (c.loop-next.next-index + 1) nexts) in
    ap (λ kept. adds same_fields kept rest) (c.in_ok-insert.ensures.keys ∙ ap (insert_key same_fields c.loop-next.sets.keys) c.followed_by.ensures)
    ∙ sym (adds_more same_fields (λ xs. map (after first) xs) (λ x. after first x ∷ []) (λ _ _. refl) c.loop-next.sets.keys nexts c.loop-next.next-index blank c.loop-next-test.true)
    ∙ c.loop-next.invariant
