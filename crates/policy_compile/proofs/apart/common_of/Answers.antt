use Rattle.std.proofs.Common.{◌∷◌, [], ◌++◌, ◌+◌, take, sym, ap, ◌∙◌, subst}
use Rattle.std.proofs.lemmas.Bool.{false≢true}
use Rattle.policy_compile.specs.Apart.{IsCommon}
use Rattle.policy_compile.proofs.ApartLemmas.{took-one, common-more, common-same, each-from, each-to}
use Rattle.policy_compile.proofs.apart.common_of.Goals as goal
use Rattle.policy_compile.proofs.apart.common_of.Goals.{then-is_in_each+in_ok-push, else-is_in_each}

pub loop-cube-preserved : goal.loop-cube-preserved
loop-cube-preserved c =
    let xs = c.as_slice-cubes.result.now in
    let i = c.loop-cube.cube-index in
    let x = c.cube-item.result in
    let others = c.args.others.now in
    let kept = c.loop-cube.common.items in
    let took = took-one xs i x c.loop-cube-test.true c.cube-item.is in
    elim c.if-is_in_each.branch [
      | then-is_in_each+in_ok-push w ↦
          subst (λ zs. IsCommon (take (i + 1) xs) others zs) (sym (ap (λ v. v.items) w.common-is ∙ w.in_ok-push.ensures.items))
          (subst (λ ys. IsCommon ys others (kept ++ x ∷ [])) (sym took) (common-more (take i xs) kept others x c.loop-cube.invariant (each-from x others (sym c.is_in_each.ensures ∙ w.if-is_in_each.true))))
      | else-is_in_each w ↦
          subst (λ zs. IsCommon (take (i + 1) xs) others zs) (sym (ap (λ v. v.items) w.common-is))
          (subst (λ ys. IsCommon ys others kept) (sym took) (common-same (take i xs) kept others x c.loop-cube.invariant (λ each. false≢true (sym w.if-is_in_each.false ∙ c.is_in_each.ensures ∙ each-to x others each))))
    ]
