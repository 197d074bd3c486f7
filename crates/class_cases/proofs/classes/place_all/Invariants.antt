-- The tags up to the last one are placed.
use Rattle.class_cases.proofs.PlacedTags.{ArePlaced, tags_above}
use Rattle.class_cases.proofs.classes.place_all.Given as goal

abbrev pub invariant-loop-tag : goal.invariant-loop-tag
invariant-loop-tag g l = ArePlaced l.classes.tag l.classes.kept l.last l.grouping

abbrev pub decreases-loop-tag : goal.decreases-loop-tag
decreases-loop-tag g l = tags_above l.last
