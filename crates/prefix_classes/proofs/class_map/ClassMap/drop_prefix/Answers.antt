use Rattle.std.proofs.Common.{sym, ◌∙◌}
use Rattle.prefix_classes.proofs.CountLemmas.{had_some, after_remove, after_no_remove}
use Rattle.prefix_classes.proofs.class_map.ClassMap.drop_prefix.Goals as goal

pub lower-requires-clause-some : goal.lower-requires-clause-some
lower-requires-clause-some c = had_some _ _ c.args.prefix c.in-Some.before c.self.invariant (sym c.remove.ensures.value ∙ c.in-Some.is)

pub invariant_of-self : goal.invariant_of-self
invariant_of-self c = after_remove _ _ _ _ c.args.prefix _ c.self.invariant (sym c.remove.ensures.value ∙ c.in-Some.is) c.remove.ensures.map c.lower.ensures.counts

pub invariant_of-self-in-None : goal.invariant_of-self-in-None
invariant_of-self-in-None c = after_no_remove _ _ _ c.args.prefix c.self.invariant (sym c.remove.ensures.value ∙ c.in-None.is) c.remove.ensures.map
