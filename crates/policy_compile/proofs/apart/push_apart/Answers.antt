use Rattle.std.proofs.Common.{sym, ◌∙◌, subst, arith}
use Rattle.net_types.specs.Sets.{Member}
use Rattle.policy_compile.specs.Apart.{IsNoted}
use Rattle.policy_compile.proofs.SetsLemmas.{all-Member}
use Rattle.policy_compile.proofs.ApartLemmas.{noted-few, noted-held, noted-new}
use Rattle.policy_compile.proofs.apart.push_apart.Goals as goal
use Rattle.policy_compile.proofs.apart.push_apart.Goals.{then-len-le-FEW-via-then-len-le-FEW, then-len-le-FEW-via-else-len-le-FEW+then-has_all}

pub returns-then-len-le-FEW : goal.returns-then-len-le-FEW
returns-then-len-le-FEW c =
    let whole = c.args.whole.now.keys in
    let part = c.args.part.keys in
    let old = c.args.apart.now.items in
    elim c.then-len-le-FEW.branch [
      | then-len-le-FEW-via-then-len-le-FEW w ↦ noted-few whole part old (omega (arith, w.if-len-le-FEW.true, c.len.ensures.len))
      | then-len-le-FEW-via-else-len-le-FEW+then-has_all w ↦ noted-held whole part old (λ x k.
          all-Member c.args.whole.now w.as_slice.result.now (sym w.has_all.ensures ∙ w.if-has_all.true) x (subst (Member x) (sym w.as_slice.ensures.keys) k))
    ]

pub returns : goal.returns
returns c =
    let whole = c.args.whole.now.keys in
    let old = c.args.apart.now.items in
    subst (λ sets. IsNoted whole c.args.part.keys old sets) (sym c.in_ok-push.ensures.items) (noted-new whole c.args.part old)
