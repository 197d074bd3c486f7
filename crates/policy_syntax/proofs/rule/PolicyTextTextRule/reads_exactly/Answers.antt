-- A policy is read exactly where a group ends behind it.
use Rattle.policy_syntax.proofs.PolicyExact.{start_exact}
use Rattle.policy_syntax.proofs.rule.PolicyTextTextRule.reads_exactly.Goals as goal

pub returns : goal.returns
returns c = λ d. start_exact d
