-- So far it is a meet of the cubes.
use Rattle.net_types.specs.Meets.{IsMeet}
use Rattle.block_build.specs.Closed.{AreKept}
use Rattle.block_build.proofs.tested.push_all.Given as goal

abbrev pub invariant-loop-field : goal.invariant-loop-field
invariant-loop-field l = record {
  meet : IsMeet l.tests.items l.whole;
  kept : AreKept l.fn.tests.items l.tests.items;
}
