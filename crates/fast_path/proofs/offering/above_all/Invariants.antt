-- the number is above those of the offers so far
use Rattle.std.proofs.Common.{take}
use Rattle.fast_path.specs.Offers.{AreBelow}
use Rattle.fast_path.proofs.offering.above_all.Given as goal

abbrev pub invariant-loop-offer : goal.invariant-loop-offer
invariant-loop-offer l = AreBelow l.most (take l.offer-index l.offers)
