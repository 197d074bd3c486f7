-- What was found of the tags so far.
use Rattle.prefix_classes.proofs.LeastLemmas.{AreFirstsSoFar}
use Rattle.prefix_classes.proofs.grouping.firsts_of.Given as goal

abbrev pub invariant-loop-tag : goal.invariant-loop-tag
invariant-loop-tag l = AreFirstsSoFar l.tags.items l.tag-iterator l.firsts.items
