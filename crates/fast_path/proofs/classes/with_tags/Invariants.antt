-- those with the changes so far
use Rattle.std.proofs.Common.{◌≡◌, map, take}
use Rattle.fast_path.specs.Committing.{classes_of, kept_of}
use Rattle.fast_path.specs.declared.fresh.Fresh.{Fresh}
use Rattle.fast_path.proofs.classes.with_tags.Given as goal

abbrev pub invariant-loop-change : goal.invariant-loop-change
invariant-loop-change l = l.classes.items ≡ classes_of (take l.change-index l.changes) (kept_of l.tags (map (λ (f : Fresh). f.sig) l.fn.groups.items))
