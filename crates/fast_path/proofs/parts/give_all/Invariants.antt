use Rattle.std.proofs.Common.{◌≡◌, drop, false}
use Rattle.fast_path.specs.Committing.{AreTaken, marked_all}
use Rattle.fast_path.proofs.parts.give_all.Given as goal

abbrev pub invariant-loop-tag : goal.invariant-loop-tag
invariant-loop-tag l = record {
  taken : AreTaken l.pool (drop l.tag-index l.dead);
  rest : marked_all l.pool (drop l.tag-index l.dead) false ≡ marked_all l.fn.pool l.dead false;
}
