use Rattle.std.proofs.Common.{ap}
use Rattle.prefix_classes.proofs.TrimLemmas.{counted_whole, sigs_whole}
use Rattle.prefix_classes.specs.Classes.{Classes}
use Rattle.prefix_classes.proofs.class_map.ClassMap.trim.Goals as goal

pub invariant_of-self : goal.invariant_of-self
invariant_of-self c = counted_whole c.args.who c.args.named.now c.self.inside.tags.map c.self.inside.kept.items _ c.self.invariant c.trim.ensures.items

pub returns-clause-kept : goal.returns-clause-kept
returns-clause-kept c = sigs_whole c.args.who c.args.named.now c.self.inside.kept.items _ c.args.self.now.kept c.self.invariant.sorted (ap (λ (s : Classes). s.kept) c.self.view_is) c.trim.ensures.items
