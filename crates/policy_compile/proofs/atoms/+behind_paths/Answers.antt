use Rattle.std.proofs.Common.{ap, ◌∙◌, subst}
use Rattle.net_types.specs.Meets.{behind}
use Rattle.net_types.specs.Policies.{mods}
use Rattle.net_types.specs.Sets.{SameMembers}
use Rattle.net_types.proofs.SetLemmas
use Rattle.classifier.specs.Seen.{cube_eq}
use Rattle.policy_syntax.specs.Views.{policy_of}
use Rattle.policy_compile.specs.Sets.{adds}
use Rattle.policy_compile.proofs.AtomLemmas.{behind-both, behind-then}
use Rattle.policy_compile.proofs.atoms.+behind_paths.Goals as goal

pub returns-in_ok-push_all-in-Both : goal.returns-in_ok-push_all-in-Both
returns-in_ok-push_all-in-Both t c =
    let p = policy_of c.in-Both.first.now in
    let q = policy_of c.in-Both.second.now in
    subst (λ w. SameMembers c.push_all.new.set.keys (behind (mods w) c.args.cubes.now)) c.in-Both.ensures
    (SetLemmas.same_trans (SetLemmas.same_eq (c.in_ok-push_all-in-Both.ensures ∙ ap (adds cube_eq c.in_ok-either-in-Both.either.keys) c.as_slice.ensures.keys))
    (behind-both (mods p) (mods q) c.args.cubes.now c.in_ok-either-in-Both.either.keys c.in_ok-others-in-Both.others.keys c.in_ok-either-in-Both.ensures c.in_ok-others-in-Both.ensures))

pub returns-in_ok-far-in-Then : goal.returns-in_ok-far-in-Then
returns-in_ok-far-in-Then t c =
    let p = policy_of c.in-Then.first.now in
    let q = policy_of c.in-Then.second.now in
    let far = subst (λ xs. SameMembers c.in_ok-far-in-Then.far.keys (behind (mods p) xs)) c.as_slice-in-Then.ensures.keys c.in_ok-far-in-Then.ensures in
    subst (λ w. SameMembers c.in_ok-far-in-Then.far.keys (behind (mods w) c.args.cubes.now)) c.in-Then.ensures
    (behind-then p q c.args.cubes.now c.in_ok-near-in-Then.near.keys c.in_ok-far-in-Then.far.keys c.in_ok-near-in-Then.ensures far)
