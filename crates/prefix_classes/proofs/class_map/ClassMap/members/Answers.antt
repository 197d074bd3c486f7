-- The number that is kept of a tag is that of its members.
use Rattle.std.proofs.Common.{ap, ◌∙◌}
use Rattle.prefix_classes.specs.Classes.{Classes, members}
use Rattle.prefix_classes.proofs.class_map.ClassMap.members.Goals as goal

pub returns : goal.returns
returns c = c.members.ensures ∙ c.self.invariant.counts c.args.tag ∙ ap (λ (s : Classes). members s.tag c.args.tag) c.self.view_is
