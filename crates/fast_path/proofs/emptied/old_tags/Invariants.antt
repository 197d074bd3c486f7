-- with those of the rest they are all
use Rattle.std.proofs.Common.{◌≡◌, ◌++◌, drop}
use Rattle.fast_path.specs.Emptied.{old_tags}
use Rattle.fast_path.proofs.emptied.old_tags.Given as goal

abbrev pub invariant-loop-change : goal.invariant-loop-change
invariant-loop-change l = l.tags.items ++ old_tags l.classes.tag (drop l.change-index l.changes) ≡ old_tags l.classes.tag l.changes
