-- What is left makes the whole.
use Rattle.std.proofs.Common.{◌≡◌, ◌++◌, drop}
use Rattle.block_build.specs.Receivers.{exits_in}
use Rattle.block_build.proofs.receive.push_apart.Given as goal

abbrev pub invariant-loop-pair : goal.invariant-loop-pair
invariant-loop-pair l = l.pairs.items ++ exits_in l.hop (drop l.pair-index l.results) ≡ l.fn.pairs.items ++ exits_in l.hop l.results
