use Rattle.std.proofs.Common.{ap, ◌∙◌, subst, []}
use Rattle.net_types.specs.Policies.{atoms, pred_atoms}
use Rattle.net_types.specs.Sets.{SameMembers}
use Rattle.net_types.proofs.SetLemmas
use Rattle.policy_syntax.specs.Views.{policy_of, pred_of}
use Rattle.classifier.specs.Seen.{cube_eq}
use Rattle.policy_compile.specs.Sets.{adds}
use Rattle.policy_compile.proofs.SetsLemmas.{cubes-same}
use Rattle.policy_compile.proofs.AtomLemmas.{atoms-then}
use Rattle.policy_compile.proofs.atoms.+atoms_of.Goals as goal

pub returns-in_ok-push_atoms-in-Test : goal.returns-in_ok-push_atoms-in-Test
returns-in_ok-push_atoms-in-Test t c =
    subst (λ w. SameMembers c.push_atoms.new.cubes.keys (atoms w)) c.in-Test.ensures
    (SetLemmas.same_trans (SetLemmas.same_eq (c.in_ok-push_atoms-in-Test.ensures ∙ ap (λ ks. adds cube_eq ks (pred_atoms (pred_of c.in-Test.pred.now))) c.new-tested.ensures.empty)) (cubes-same [] (pred_atoms (pred_of c.in-Test.pred.now))))

pub returns-in_ok-both-in-Both : goal.returns-in_ok-both-in-Both
returns-in_ok-both-in-Both t c =
    subst (λ w. SameMembers c.in_ok-both-in-Both.both.keys (atoms w)) c.in-Both.ensures
    (SetLemmas.same_trans c.in_ok-both-in-Both.ensures (SetLemmas.same_append c.in_ok-left-in-Both.ensures c.in_ok-right-in-Both.ensures))

pub returns-in_ok-whole-in-Then : goal.returns-in_ok-whole-in-Then
returns-in_ok-whole-in-Then t c =
    let p = policy_of c.in-Then.first.now in
    let q = policy_of c.in-Then.second.now in
    subst (λ w. SameMembers c.in_ok-whole-in-Then.whole.keys (atoms w)) c.in-Then.ensures
    (atoms-then p q c.in_ok-left-in-Then.left.keys c.in_ok-right-in-Then.right.keys c.in_ok-whole-in-Then.whole.keys c.in_ok-left-in-Then.ensures c.in_ok-right-in-Then.ensures c.in_ok-whole-in-Then.ensures)
