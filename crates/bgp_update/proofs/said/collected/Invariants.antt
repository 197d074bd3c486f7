-- What was said so far and what is left make the whole.
use Rattle.std.proofs.Common.{◌≡◌}
use Rattle.std.specs.List.{fold}
use Rattle.net_types.specs.UpdateValue.{said, with_attribute}
use Rattle.bgp_update.specs.Answers.{said_view}
use Rattle.bgp_update.proofs.said.collected.Given as goal

abbrev pub invariant-loop-attribute : goal.invariant-loop-attribute
invariant-loop-attribute l = fold with_attribute (said_view l.said) l.attribute-iterator.rest.items ≡ said l.fn.attributes.items
