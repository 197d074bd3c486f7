use Rattle.std.proofs.Common.{length, ap, ◌∙◌}
use Rattle.std.specs.FinMap.{entries}
use Rattle.prefix_classes.specs.Classes.{Classes}
use Rattle.prefix_classes.proofs.class_map.ClassMap.carried.Goals as goal

pub returns : goal.returns
returns c = c.len.ensures ∙ ap (λ (s : Classes). length (entries s.tag)) c.self.view_is
