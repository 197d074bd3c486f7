use Rattle.std.proofs.Common.{refl, subst}
use Rattle.net_types.specs.Policies.{Both}
use Rattle.policy_compile.specs.Narrow.{IsModsOf}
use Rattle.policy_compile.proofs.ModsLemmas.{wide-left, wide-right, both-few}
use Rattle.policy_compile.proofs.mods.either.Goals as goal

pub returns-in-None : goal.returns-in-None
returns-in-None c = λ p q f g. wide-left (Both p q) p q refl (subst (λ o. IsModsOf p o) c.in-None.is f)

pub returns-in-None-second : goal.returns-in-None-second
returns-in-None-second c = λ p q f g. wide-right (Both p q) p q refl (subst (λ o. IsModsOf q o) c.in-None-second.is g)

pub returns-in_ok-found-in-Some-second : goal.returns-in_ok-found-in-Some-second
returns-in_ok-found-in-Some-second c = λ p q f g. both-few p q c.in-Some.first.keys c.in-Some-second.second.keys (subst (λ o. IsModsOf p o) c.in-Some.is f) (subst (λ o. IsModsOf q o) c.in-Some-second.is g) c.in_ok-found-in-Some-second.found c.in_ok-found-in-Some-second.ensures
