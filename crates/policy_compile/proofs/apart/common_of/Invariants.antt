use Rattle.std.proofs.Common.{take}
use Rattle.policy_compile.specs.Apart.{IsCommon}
use Rattle.policy_compile.proofs.apart.common_of.Given as goal

abbrev pub invariant-loop-cube : goal.invariant-loop-cube
invariant-loop-cube l = IsCommon (take l.cube-index l.cubes) l.others l.common.items
