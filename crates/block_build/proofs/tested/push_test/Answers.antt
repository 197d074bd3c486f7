-- The cube is there, or it comes last.
use Rattle.std.proofs.Common.{[], ◌∷◌, refl, inl, sym, ap, ◌∙◌, subst}
use Rattle.std.specs.List.{list_any}
use Rattle.classifier.specs.Seen.{cube_eq}
use Rattle.net_types.proofs.SetLemmas
use Rattle.net_types.specs.Sets.{Member}
use Rattle.block_build.proofs.tested.push_test.Goals as goal
use Rattle.classifier.proofs.SeenLemmas.{any_there}

pub returns-then-contains-clause-there : goal.returns-then-contains-clause-there
returns-then-contains-clause-there c =
    let test = c.args.test.now in
    any_there c.args.tests.now.items test (ap (λ cs. list_any (λ d. cube_eq d test) cs) (sym c.deref.ensures.value) ∙ sym c.contains.ensures.value ∙ c.if-contains.true)

pub returns-clause-there : goal.returns-clause-there
returns-clause-there c =
    subst (Member c.args.test.now) (sym c.in_ok-push.ensures.items) (SetLemmas.Member-append_right c.args.tests.now.items (c.args.test.now ∷ []) c.args.test.now (inl refl))

pub returns-clause-kept : goal.returns-clause-kept
returns-clause-kept c = λ d k. subst (Member d) (sym c.in_ok-push.ensures.items) (SetLemmas.Member-append_left c.args.tests.now.items (c.args.test.now ∷ []) d k)
