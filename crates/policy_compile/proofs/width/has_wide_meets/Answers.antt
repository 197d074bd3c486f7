use Rattle.std.proofs.Common.{sym, ◌∙◌, subst}
use Rattle.policy_syntax.specs.Views.{policy_of}
use Rattle.policy_compile.specs.Apart.{SomeIsMany, IsNarrowed}
use Rattle.policy_compile.proofs.ApartLemmas.{wide-from, wide-to}
use Rattle.policy_compile.proofs.width.has_wide_meets.Goals as goal

pub returns : goal.returns
returns c =
    let p = policy_of c.args.tree.now in
    let new = c.narrow.new.apart.items in
    let whole = c.in_ok-whole.whole in
    let f = subst (λ sets. IsNarrowed p sets new whole.keys) c.new-sets.ensures.items c.in_ok-whole.ensures in
    let sets = c.deref.ensures.value ∙ c.in_ok-push.ensures.items in (
      λ t. wide-from p new whole f (subst SomeIsMany sets (c.in_ok-wide.ensures.0 t)),
      λ w. c.in_ok-wide.ensures.1 (subst SomeIsMany (sym sets) (wide-to p new whole f w)),
    )
