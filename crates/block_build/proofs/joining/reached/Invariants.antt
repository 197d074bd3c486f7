-- The participants in the offers so far that the sender reaches.
use Rattle.std.proofs.Common.{take}
use Rattle.block_build.specs.Reached.{AreReached}
use Rattle.block_build.specs.Receivers.{receivers}
use Rattle.block_build.specs.Views.{inbound_of}
use Rattle.block_build.proofs.joining.reached.Given as goal

abbrev pub invariant-loop-offer : goal.invariant-loop-offer
invariant-loop-offer l =
    AreReached l.sending.best l.sending.offers.now l.sending.rules.now (receivers (inbound_of l.view) (take l.offer-index l.sending.offers.now)) l.all.items
