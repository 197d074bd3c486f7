use Rattle.run_laws.proofs.Passing.{policies_have_passed}
use Rattle.run_laws.proofs.policies_have_passed.Goals as goal

pub returns : goal.returns
returns c = policies_have_passed
