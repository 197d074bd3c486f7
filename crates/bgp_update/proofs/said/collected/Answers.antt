-- One more is added to what was said.
use Rattle.std.proofs.Common.{List, ap, sym, ◌∙◌}
use Rattle.std.specs.List.{fold}
use Rattle.net_types.specs.UpdateValue.{Said, with_attribute}
use Rattle.net_types.specs.declared.attribute.Attribute.{Attribute}
use Rattle.bgp_update.specs.Answers.{said_view}
use Rattle.bgp_update.proofs.said.collected.Goals as goal

pub loop-attribute-preserved : goal.loop-attribute-preserved
loop-attribute-preserved c =
    ap (λ (s : Said). fold with_attribute s c.next.new.self.rest.items) c.in_ok-add.ensures
    ∙ sym (ap (λ (l : List Attribute). fold with_attribute (said_view c.loop-attribute.said) l) c.in-Some.ensures.steps.0)
    ∙ c.loop-attribute.invariant
