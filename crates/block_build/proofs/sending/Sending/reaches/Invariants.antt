-- None of the rules so far sends to the participant.
use Rattle.std.proofs.Common.{take}
use Rattle.block_build.specs.Reached.{NoneSends}
use Rattle.block_build.proofs.sending.Sending.reaches.Given as goal

abbrev pub invariant-loop-i : goal.invariant-loop-i
invariant-loop-i l = NoneSends l.self.best l.self.offers.now (take l.i l.self.rules.now) l.who
