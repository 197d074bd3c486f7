use Rattle.std.proofs.Common.{◌≡◌, drop}
use Rattle.fast_path.specs.Committing.{untagged}
use Rattle.fast_path.proofs.parts.untag_all.Given as goal

abbrev pub invariant-loop-change : goal.invariant-loop-change
invariant-loop-change l = record {
  kept : l.classes.kept ≡ l.fn.classes.kept;
  rest : untagged l.classes.tag (drop l.change-index l.changes) ≡ untagged l.fn.classes.tag l.changes;
}
