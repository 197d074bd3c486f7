-- The participant is still to come.
use Rattle.std.proofs.Common.{◌≡◌, drop, map}
use Rattle.block_build.specs.Views.{entry, inbound_of, rules_in}
use Rattle.block_build.proofs.view.View.inbound.Given as goal

abbrev pub invariant-loop-entry : goal.invariant-loop-entry
invariant-loop-entry l = rules_in (map entry (drop l.entry-index l.entry-items)) l.who ≡ inbound_of l.self l.who
