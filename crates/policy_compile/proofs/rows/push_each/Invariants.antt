-- The results so far, each once.
use Rattle.std.proofs.Common.{◌≡◌, take}
use Rattle.classifier.specs.Items.{add_all}
use Rattle.policy_compile.proofs.rows.push_each.Given as goal

abbrev pub invariant-loop-item : goal.invariant-loop-item
invariant-loop-item l = l.all ≡ add_all l.fn.all (take l.item-index l.list)
