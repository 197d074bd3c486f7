use Rattle.std.proofs.Common.{ap}
use Rattle.policy_compile.specs.Sets.{assigns_of}
use Rattle.policy_compile.proofs.ModsLemmas.{only-few}
use Rattle.policy_compile.proofs.mods.only.Goals as goal

pub returns : goal.returns
returns c = λ p one none. only-few p c.args.set c.in_ok-sets.sets.keys (ap assigns_of c.in_ok-sets.ensures) one none
