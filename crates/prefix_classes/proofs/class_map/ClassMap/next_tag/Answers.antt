use Rattle.std.proofs.Common.{ap, subst}
use Rattle.prefix_classes.proofs.NextLemmas.{found}
use Rattle.prefix_classes.specs.Classes.{Classes}
use Rattle.prefix_classes.specs.Counts.{IsCounted}
use Rattle.prefix_classes.proofs.class_map.ClassMap.next_tag.Goals as goal

pub returns-clause-next : goal.returns-clause-next
returns-clause-next c = (found c.args.after c.args.self.now.tag _ c.args.self.now.kept (subst (λ m. IsCounted m c.self.inside.kept.items) (ap (λ (s : Classes). s.tag) c.self.view_is) c.self.invariant) (ap (λ (s : Classes). s.kept) c.self.view_is) _ c.first_used.ensures).next

pub returns-clause-none : goal.returns-clause-none
returns-clause-none c = (found c.args.after c.args.self.now.tag _ c.args.self.now.kept (subst (λ m. IsCounted m c.self.inside.kept.items) (ap (λ (s : Classes). s.tag) c.self.view_is) c.self.invariant) (ap (λ (s : Classes). s.kept) c.self.view_is) _ c.first_used.ensures).none

pub returns-clause-kept : goal.returns-clause-kept
returns-clause-kept c = (found c.args.after c.args.self.now.tag _ c.args.self.now.kept (subst (λ m. IsCounted m c.self.inside.kept.items) (ap (λ (s : Classes). s.tag) c.self.view_is) c.self.invariant) (ap (λ (s : Classes). s.kept) c.self.view_is) _ c.first_used.ensures).kept
