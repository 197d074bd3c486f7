-- What is left makes the whole.
use Rattle.std.proofs.Common.{◌≡◌, drop}
use Rattle.block_build.specs.Offers.{each_once}
use Rattle.table_cases.proofs.building.each_once.Given as goal

abbrev pub invariant-loop-at : goal.invariant-loop-at
invariant-loop-at l = each_once (drop l.at l.offers) ≡ each_once l.offers
