use Rattle.std.proofs.Common.{◌≡◌, map, drop}
use Rattle.classifier.specs.Items.{add_all}
use Rattle.classifier.specs.Lines.{after, after_all}
use Rattle.classifier.proofs.afters.after_of.Given as goal

-- what is left makes the whole
abbrev pub invariant-loop-pair : goal.invariant-loop-pair
invariant-loop-pair l = add_all l.after (map (after l.first) (drop l.pair-index l.next)) ≡ after_all l.first l.next
