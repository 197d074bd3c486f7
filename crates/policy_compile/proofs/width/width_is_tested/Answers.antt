use Rattle.net_types.proofs.WidthTests.{width_tested}
use Rattle.policy_compile.proofs.width.width_is_tested.Goals as goal

pub returns : goal.returns
returns c = width_tested
