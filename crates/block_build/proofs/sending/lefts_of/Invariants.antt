-- So it is known of the rules so far.
use Rattle.std.proofs.Common.{◌≡◌, map, take}
use Rattle.classifier.specs.declared.line.Line.{Line}
use Rattle.block_build.specs.Offers.{has_one_left}
use Rattle.block_build.proofs.sending.lefts_of.Given as goal

abbrev pub invariant-loop-x : goal.invariant-loop-x
invariant-loop-x l = l.lefts.items ≡ map (λ (x : Line). has_one_left l.offers x.results) (take l.x-index l.rules)
