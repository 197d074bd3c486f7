use Rattle.std.proofs.Common.{◌≡◌, ◌≤◌, ◌+◌, drop}
use Rattle.std.specs.FinMap.{insert}
use Rattle.prefix_classes.specs.Classes.{given, new_ones}
use Rattle.prefix_classes.proofs.class_map.ClassMap.give.Given as goal

abbrev pub invariant-loop-prefix : goal.invariant-loop-prefix
invariant-loop-prefix l =
    (given l.tag l.members l.fn.self.tag ≡ given l.tag (drop l.prefix-index l.members) l.self.tag)
    × (l.self.kept ≡ insert l.fn.self.kept l.tag l.fn.sig)
    × (l.fn.self.prefixes + new_ones l.self.tag (drop l.prefix-index l.members) ≤ l.self.prefixes + new_ones l.fn.self.tag l.members)
    × (l.self.tags ≡ l.fn.self.tags)
