use Rattle.std.proofs.Common.{sym, ap, subst, ◌∙◌}
use Rattle.prefix_classes.proofs.KeepLemmas.{forget_all_none}
use Rattle.prefix_classes.specs.Classes.{Classes, members}
use Rattle.prefix_classes.specs.Counts.{IsCounted, sigs_of}
use Rattle.prefix_classes.proofs.class_map.ClassMap.forget_each.Goals as goal

pub invariant_of-self : goal.invariant_of-self
invariant_of-self c =
    let it = forget_all_none _ c.args.tags.now _ c.args.self.now.kept c.self.invariant (ap (λ (s : Classes). s.kept) c.self.view_is) (λ t there. ap (λ (s : Classes). members s.tag t) c.self.view_is ∙ c.requires t there) in
    subst (IsCounted c.self.inside.tags.map) (sym c.remove_each.ensures.items) it.0

pub returns-clause-kept : goal.returns-clause-kept
returns-clause-kept c =
    let it = forget_all_none _ c.args.tags.now _ c.args.self.now.kept c.self.invariant (ap (λ (s : Classes). s.kept) c.self.view_is) (λ t there. ap (λ (s : Classes). members s.tag t) c.self.view_is ∙ c.requires t there) in
    ap sigs_of c.remove_each.ensures.items ∙ it.1
