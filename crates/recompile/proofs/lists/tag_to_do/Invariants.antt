-- Those that are still to do stay in the list.
use Rattle.recompile.specs.Covering.{IsTagToDo}
use Rattle.recompile.specs.Units.{KeepsThose}
use Rattle.recompile.proofs.lists.tag_to_do.Given as goal

abbrev pub invariant-loop-tag : goal.invariant-loop-tag
invariant-loop-tag l = KeepsThose (IsTagToDo l.classes.tag l.placed) l.fn.tags.items l.tags.items

abbrev pub decreases-loop-tag : goal.decreases-loop-tag
decreases-loop-tag l = l.tags.len
