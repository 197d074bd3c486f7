-- What is left of the moves makes of the tags so far what all moves make of the tags at first.
use Rattle.std.proofs.Common.{◌≡◌, ◌≤◌, drop}
use Rattle.prefix_classes.proofs.MovedLemmas.{HaveTags}
use Rattle.prefix_classes.specs.Merging.{moved}
use Rattle.prefix_classes.proofs.class_map.ClassMap.merge.Given as goal

abbrev pub invariant-loop-member : goal.invariant-loop-member
invariant-loop-member l = record {
  moves : moved l.fn.self.tag l.fn.moves ≡ moved l.self.tag (drop l.member-index l.fn.moves);
  kept : l.self.kept ≡ l.fn.self.kept;
  tagged : HaveTags l.self.tag (drop l.member-index l.fn.moves);
  prefixes : l.fn.self.prefixes ≤ l.self.prefixes;
  tags : l.self.tags ≡ l.fn.self.tags;
}
