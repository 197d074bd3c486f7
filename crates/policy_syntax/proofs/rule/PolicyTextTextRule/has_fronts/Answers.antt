-- Each front of a policy begins one.
use Rattle.policy_syntax.proofs.PolicyFronts.{policy_fronts}
use Rattle.policy_syntax.proofs.rule.PolicyTextTextRule.has_fronts.Goals as goal

pub returns : goal.returns
returns c = λ d. policy_fronts d
