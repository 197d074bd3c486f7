-- with those of the rest they are all
use Rattle.std.proofs.Common.{◌≡◌, ◌++◌, [], drop, map}
use Rattle.fast_path.specs.Committing.{classes_of, kept_of}
use Rattle.fast_path.specs.declared.fresh.Fresh.{Fresh}
use Rattle.fast_path.proofs.classes.without_members.Given as goal

abbrev pub invariant-loop-tag : goal.invariant-loop-tag
invariant-loop-tag l = l.classes.items ++ classes_of [] (kept_of (drop l.tag-index l.tags) (map (λ (f : Fresh). f.sig) l.left.rest.items)) ≡ classes_of [] (kept_of l.tags (map (λ (f : Fresh). f.sig) l.fn.groups.items))
