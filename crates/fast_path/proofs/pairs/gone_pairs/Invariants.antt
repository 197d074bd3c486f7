use Rattle.std.proofs.Common.{◌≡◌, ◌≤◌, ◌++◌, drop, length}
use Rattle.net_types.specs.Sets.{union_over}
use Rattle.fast_path.specs.Pairs.{tag_pairs, untold}
use Rattle.fast_path.proofs.pairs.gone_pairs.Given as goal

-- with those of the rest they are all, and those of the rest that nobody was told are left
abbrev pub invariant-loop-tag : goal.invariant-loop-tag
invariant-loop-tag l = record {
  pairs : l.pairs.items ++ union_over (tag_pairs l.names l.classes.kept l.adverts.told) (drop l.tag-index l.emptied) ≡ union_over (tag_pairs l.names l.classes.kept l.adverts.told) l.emptied;
  left : drop l.at l.dead ≡ untold l.adverts.told (drop l.tag-index l.emptied);
  within : l.at ≤ length l.dead;
}
