-- What is left makes the whole; the cubes differ and are meets.
use Rattle.std.proofs.Common.{◌≡◌, [], List, drop}
use Rattle.classifier.specs.Lines.{add_lines}
use Rattle.classifier.specs.Meaning.{HasDistinctCubes}
use Rattle.classifier.specs.Seen.{Agrees}
use Rattle.net_types.specs.declared.cube.Cube.{Cube}
use Rattle.block_build.specs.Bounds.{AreMeets, AreTheirMeets}
use Rattle.block_build.specs.Spreads.{blocks}
use Rattle.block_build.proofs.spread.spread_all.Given as goal

abbrev pub invariant-loop-x : goal.invariant-loop-x
invariant-loop-x l = record {
  whole : add_lines l.lines.items (blocks l.best l.offers l.receivers (drop l.x-index l.xs)) ≡ add_lines [] (blocks l.best l.offers l.receivers l.xs);
  differ : HasDistinctCubes l.lines.items;
  meets : (atoms : List Cube) → AreTheirMeets atoms l.receivers → AreMeets atoms l.xs → AreMeets atoms l.lines.items;
  agrees : Agrees l.lines.items l.seen;
}
