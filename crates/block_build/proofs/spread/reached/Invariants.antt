-- The rules are as by all receivers.
use Rattle.std.proofs.Common.{◌≡◌, List, length}
use Rattle.classifier.specs.declared.line.Line.{Line}
use Rattle.net_types.specs.Sets.{Member}
use Rattle.block_build.specs.Spreads.{spread}
use Rattle.block_build.specs.declared.receive.Receiver.{Receiver}
use Rattle.block_build.proofs.spread.reached.Given as goal

abbrev pub invariant-loop-best : goal.invariant-loop-best
invariant-loop-best l = record {
  all : (xs : List Line) → spread l.left l.best l.items xs l.front ≡ spread l.left l.best l.items xs l.receivers;
  theirs : (r : Receiver) → Member r l.front → Member r l.receivers;
}

abbrev pub decreases-loop-best : goal.decreases-loop-best
decreases-loop-best l = length l.front
