-- Those that were kept and what is left of the others are all that are left.
use Rattle.std.proofs.Common.{◌≡◌, [], ◌++◌, drop}
use Rattle.events.specs.Sound.{cubes_of}
use Rattle.block_build.specs.Tight.{sifted}
use Rattle.block_build.proofs.tight.tight_rules.Given as goal

abbrev pub invariant-loop-next : goal.invariant-loop-next
invariant-loop-next l = l.rules.items ++ sifted (cubes_of l.rules.items) (drop l.next-index l.old) ≡ sifted [] l.old
