use Rattle.std.proofs.Common.{◌≡◌, ◌++◌, drop}
use Rattle.net_types.specs.Sets.{union_over}
use Rattle.fast_path.specs.Pairs.{class_pairs}
use Rattle.fast_path.proofs.pairs.fresh_pairs.Given as goal

-- with those of the rest they are all
abbrev pub invariant-loop-class : goal.invariant-loop-class
invariant-loop-class l = l.pairs.items ++ union_over (class_pairs l.names) (drop l.class-index l.fresh) ≡ union_over (class_pairs l.names) l.fresh
