-- So many have joined.
use Rattle.std.proofs.Common.{◌≡◌, replicate}
use Rattle.std.specs.FinMap.{empty}
use Rattle.plan_cases.proofs.declared.nothing_told.Given as goal

abbrev pub invariant-loop-joined : goal.invariant-loop-joined
invariant-loop-joined l = record { told : l.adverts.told ≡ replicate l.joined empty; present : l.adverts.present ≡ replicate l.joined empty }
