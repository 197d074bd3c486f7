use Rattle.std.proofs.Common.{◌≡◌, false, take}
use Rattle.std.specs.Prelude.{slice_set}
use Rattle.std.specs.FinMap.{empty}
use Rattle.fast_path.specs.Pairs.{is_told}
use Rattle.exchange_core.proofs.taking.is_told_elsewhere.Given as goal

-- nobody else was told it so far
abbrev pub invariant-loop-at : goal.invariant-loop-at
invariant-loop-at l = is_told (take l.at (slice_set l.adverts.told l.who.0 empty)) l.tag ≡ false
