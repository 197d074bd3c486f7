-- The location isn't among those before.
use Rattle.std.proofs.Common.{take}
use Rattle.net_types.specs.Sets.{Member}
use Rattle.policy_compile.proofs.ways.place_of.Given as goal

abbrev pub invariant-loop-place : goal.invariant-loop-place
invariant-loop-place l = Member l.loc (take l.place l.locations) → ⊥
