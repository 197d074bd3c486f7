-- What is left makes the whole.
use Rattle.std.proofs.Common.{◌≡◌, drop}
use Rattle.block_build.specs.Offers.{has_one_for}
use Rattle.block_build.proofs.offers.has_one_for.Given as goal

abbrev pub invariant-loop-pair : goal.invariant-loop-pair
invariant-loop-pair l = has_one_for l.best l.who (drop l.pair-index l.items) ≡ has_one_for l.best l.who l.items
