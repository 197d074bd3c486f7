use Rattle.std.proofs.Common.{refl, subst}
use Rattle.net_types.specs.Policies.{Then}
use Rattle.policy_compile.specs.Narrow.{IsModsOf, IsFewOf}
use Rattle.policy_compile.specs.Sets.{assigns_of, followed}
use Rattle.policy_compile.proofs.ModsLemmas.{wide-left, wide-right, then-few}
use Rattle.policy_compile.proofs.mods.behind.Goals as goal

pub returns-in-None : goal.returns-in-None
returns-in-None c = λ p q f g. wide-left (Then p q) p q refl (subst (λ o. IsModsOf p o) c.in-None.is f)

pub returns-in-None-second : goal.returns-in-None-second
returns-in-None-second c = λ p q f g. wide-right (Then p q) p q refl (subst (λ o. IsModsOf q o) c.in-None-second.is g)

pub returns : goal.returns
returns c = λ p q f g. then-few p q c.in-Some.first.keys c.in-Some-second.second.keys (subst (λ o. IsModsOf p o) c.in-Some.is f) (subst (λ o. IsModsOf q o) c.in-Some-second.is g) c.in_ok-found-in-Some-second.found
    (subst (λ xs. IsFewOf (assigns_of (followed xs c.in-Some-second.second.keys)) c.in_ok-found-in-Some-second.found) c.as_slice.ensures.keys
    (subst (λ xs. IsFewOf (assigns_of (followed c.as_slice.result.now xs)) c.in_ok-found-in-Some-second.found) c.as_slice-in-Some-second.ensures.keys c.in_ok-found-in-Some-second.ensures))
