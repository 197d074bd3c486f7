use Rattle.std.proofs.Common.{ap, ◌∙◌}
use Rattle.prefix_classes.proofs.NextLemmas.{tag_is_kept}
use Rattle.prefix_classes.specs.Classes.{Classes}
use Rattle.prefix_classes.proofs.class_map.ClassMap.tag_of.Goals as goal

pub returns-clause-kept : goal.returns-clause-kept
returns-clause-kept c = tag_is_kept c.self.inside.tags.map _ c.args.self.now.kept c.self.invariant (ap (λ (s : Classes). s.kept) c.self.view_is) c.args.prefix c.copied.result (c.copied.ensures ∙ c.get.ensures)
