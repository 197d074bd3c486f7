-- What is left decides.
use Rattle.std.proofs.Common.{◌≡◌, drop}
use Rattle.events.specs.Sound.{cubes_of}
use Rattle.block_build.specs.Tight.{is_inside}
use Rattle.block_build.proofs.tight.is_inside.Given as goal

abbrev pub invariant-loop-earlier : goal.invariant-loop-earlier
invariant-loop-earlier l = is_inside (cubes_of (drop l.earlier-index l.rules)) l.cube ≡ is_inside (cubes_of l.rules) l.cube
