use Rattle.std.proofs.Common.{◌≡◌, ◌≤◌}
use Rattle.fast_path.specs.Committing.{AreUnkept, HaveTagsBelow, given_all, kept_with, member_count, signed}
use Rattle.fast_path.proofs.parts.give_members.Given as goal

abbrev pub invariant-loop-class : goal.invariant-loop-class
invariant-loop-class l = record {
  tag : given_all l.classes.tag l.class-iterator.rest.items ≡ given_all l.fn.classes.tag l.fn.fresh.items;
  kept : kept_with l.classes.kept (signed l.class-iterator.rest.items) ≡ kept_with l.fn.classes.kept (signed l.fn.fresh.items);
  new : AreUnkept l.classes.kept (signed l.class-iterator.rest.items);
  tags : HaveTagsBelow l.classes.tags l.class-iterator.rest.items;
  prefixes : member_count l.class-iterator.rest.items ≤ l.classes.prefixes;
}
