-- What is left makes the whole.
use Rattle.std.proofs.Common.{◌≡◌, ◌++◌, drop}
use Rattle.classifier.specs.Meaning.{cubes_of}
use Rattle.net_types.specs.Sets.{union_over}
use Rattle.block_build.specs.declared.receive.Receiver.{Receiver}
use Rattle.block_build.proofs.atoms.all_cubes.Given as goal

abbrev pub invariant-loop-receiver : goal.invariant-loop-receiver
invariant-loop-receiver l =
    l.atoms.items ++ union_over (λ (r : Receiver). cubes_of r.lines) (drop l.receiver-index l.receivers)
    ≡ cubes_of l.xs ++ union_over (λ (r : Receiver). cubes_of r.lines) l.receivers
