-- What is left makes the whole.
use Rattle.std.proofs.Common.{◌≡◌, [], drop}
use Rattle.block_build.specs.Receivers.{add_exits}
use Rattle.block_build.proofs.receive.exits_of.Given as goal

abbrev pub invariant-loop-pair : goal.invariant-loop-pair
invariant-loop-pair l = add_exits l.hop l.exits (drop l.pair-index l.results) ≡ add_exits l.hop [] l.results
