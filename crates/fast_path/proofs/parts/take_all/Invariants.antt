use Rattle.std.proofs.Common.{◌≡◌, drop, true}
use Rattle.fast_path.specs.Committing.{AreFree, marked_all, signed, tags_of}
use Rattle.fast_path.proofs.parts.take_all.Given as goal

abbrev pub invariant-loop-class : goal.invariant-loop-class
invariant-loop-class l = record {
  free : AreFree l.pool (tags_of (signed (drop l.class-index l.fresh)));
  rest : marked_all l.pool (tags_of (signed (drop l.class-index l.fresh))) true ≡ marked_all l.fn.pool (tags_of (signed l.fresh)) true;
}
