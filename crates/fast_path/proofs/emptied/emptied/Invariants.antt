-- those among the tags so far
use Rattle.std.proofs.Common.{◌≡◌, filter, take}
use Rattle.fast_path.specs.Emptied.{is_left_of}
use Rattle.fast_path.proofs.emptied.emptied.Given as goal

abbrev pub invariant-loop-tag : goal.invariant-loop-tag
invariant-loop-tag l = l.emptied.items ≡ filter (is_left_of l.classes.tag l.fn.left.items) (take l.tag-index l.tag-items)
