use Rattle.std.proofs.Common.{◌≡◌, ◌++◌, drop}
use Rattle.net_types.specs.Sets.{union_over}
use Rattle.exchange_core.specs.Taking.{pairs_at}
use Rattle.exchange_core.proofs.taking.each_pair.Given as goal

-- with those of the rest they are all
abbrev pub invariant-loop-tag : goal.invariant-loop-tag
invariant-loop-tag l = l.pairs.items ++ union_over (pairs_at l.ports) (drop l.tag-index l.tags) ≡ union_over (pairs_at l.ports) l.tags
