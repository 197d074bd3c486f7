use Rattle.std.proofs.Common.{◌<◌, inl, inr, subst, sym, refl, rules}
use Rattle.fast_path.specs.Committing.{HaveTagsBelow}
use Rattle.fast_path.proofs.parts.give_members.Goals as goal

pub loop-class-init : goal.loop-class-init
loop-class-init c = record {
  tag = search rules;
  kept = search rules;
  new = search rules;
  tags = subst (HaveTagsBelow c.args.classes.now.tags) (sym c.into_iter-class-iterator.ensures.into_iter_gives.0) c.requires.tags;
  prefixes = search rules;
}

pub give-requires-clause-tags : goal.give-requires-clause-tags
give-requires-clause-tags c = subst (HaveTagsBelow c.loop-class.classes.tags) c.in-Some.ensures.steps.0 c.loop-class.invariant.tags c.in-Some.class (inl refl)

pub loop-class-preserved : goal.loop-class-preserved
loop-class-preserved c = record {
  tag = search rules;
  kept = search rules;
  new = search rules;
  tags = λ x m. subst (λ n. x.tag.0 < n) (sym c.give.ensures.tags) (subst (HaveTagsBelow c.loop-class.classes.tags) c.in-Some.ensures.steps.0 c.loop-class.invariant.tags x (inr m));
  prefixes = search rules;
}
