use Rattle.std.proofs.Common.{◌++◌, subst}
use Rattle.net_types.specs.Sets.{Member}
use Rattle.classifier.specs.declared.classifier.Classifier.{Classifier}
use Rattle.classifier.specs.Classifiers.{assigns_of}
use Rattle.policy_compile.specs.Summed.{whole_of}
use Rattle.policy_compile.proofs.sums.joined.Goals as goal

pub returns-then-not-are_aligned-clause-assigns : goal.returns-then-not-are_aligned-clause-assigns
returns-then-not-are_aligned-clause-assigns c = λ m h.
    subst (λ (x : Classifier). Member m (assigns_of x ++ assigns_of (whole_of c.args.b))) c.whole-front.ensures
    (subst (λ (y : Classifier). Member m (assigns_of c.whole-front.result.now ++ assigns_of y)) c.whole-back.ensures (c.in_ok-both.ensures.assigns m h))

pub returns-clause-assigns : goal.returns-clause-assigns
returns-clause-assigns c = λ m h.
    subst (λ (x : Classifier). Member m (assigns_of x ++ assigns_of (whole_of c.args.b))) c.in_ok-first.ensures
    (subst (λ (y : Classifier). Member m (assigns_of c.in_ok-first.first.whole ++ assigns_of y)) c.in_ok-second.ensures (c.in_ok-both-2.ensures.assigns m h))
