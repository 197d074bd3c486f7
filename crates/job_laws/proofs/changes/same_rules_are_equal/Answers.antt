use Rattle.block_build.proofs.SameRules.{rules_test}
use Rattle.job_laws.proofs.changes.same_rules_are_equal.Goals as goal

pub returns : goal.returns
returns c = rules_test
