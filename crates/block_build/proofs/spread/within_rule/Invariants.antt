-- What is left makes the whole; the cubes differ and are meets.
use Rattle.std.proofs.Common.{◌≡◌, [], ◌∷◌, List, drop}
use Rattle.classifier.specs.Lines.{line}
use Rattle.classifier.specs.Meaning.{HasDistinctCubes}
use Rattle.net_types.specs.declared.cube.Cube.{Cube}
use Rattle.block_build.specs.Bounds.{AreMeets, AreTheirMeets}
use Rattle.block_build.specs.Spreads.{spread}
use Rattle.block_build.proofs.spread.within_rule.Given as goal

abbrev pub invariant-loop-receiver : goal.invariant-loop-receiver
invariant-loop-receiver l = record {
  whole : spread l.left l.best l.x.results l.lines.items (drop l.receiver-index l.receivers) ≡ spread l.left l.best l.x.results (line [] l.x.cube ∷ []) l.receivers;
  differ : HasDistinctCubes l.lines.items;
  meets : (atoms : List Cube) → AreTheirMeets atoms l.receivers → AreMeets atoms (l.x ∷ []) → AreMeets atoms l.lines.items;
}
