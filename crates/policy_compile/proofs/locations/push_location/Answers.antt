use Rattle.std.proofs.Common.{List, ◌∷◌, [], ◌∙◌, inl, refl, sym, ap, subst}
use Rattle.std.specs.List.{slice_get}
use Rattle.net_types.specs.declared.headers.Loc.{Loc}
use Rattle.net_types.specs.Sets.{Member}
use Rattle.net_types.proofs.SetLemmas.{Member-append_right}
use Rattle.net_types.proofs.FindLemmas.{slice_get-Member}
use Rattle.policy_compile.proofs.CoverLemmas.{pushed-kept}
use Rattle.policy_compile.proofs.locations.push_location.Goals as goal

pub returns-in-Some-clause-there : goal.returns-in-Some-clause-there
returns-in-Some-clause-there c =
    let ls = c.args.locations.now.items in
    slice_get-Member ls c.in-Some.field-0 c.args.loc (ap (λ (xs : List Loc). slice_get xs c.in-Some.field-0) (sym c.deref.ensures.value) ∙ c.in-Some.ensures.found)

pub returns-in_ok-push-in-None-clause-there : goal.returns-in_ok-push-in-None-clause-there
returns-in_ok-push-in-None-clause-there c = subst (Member c.args.loc) (sym c.in_ok-push-in-None.ensures.items) (Member-append_right c.args.locations.now.items (c.args.loc ∷ []) c.args.loc (inl refl))

pub returns-in_ok-push-in-None-clause-kept : goal.returns-in_ok-push-in-None-clause-kept
returns-in_ok-push-in-None-clause-kept c = λ n l at. ap (λ (xs : List Loc). slice_get xs n) c.in_ok-push-in-None.ensures.items ∙ pushed-kept c.args.locations.now.items c.args.loc n l at
