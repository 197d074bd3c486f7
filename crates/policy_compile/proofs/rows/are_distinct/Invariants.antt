-- The results of the lists so far, none of which stands there twice.
use Rattle.std.proofs.Common.{◌≡◌, take}
use Rattle.net_types.specs.Sets.{union_over}
use Rattle.policy_compile.proofs.rows.are_distinct.Given as goal

abbrev pub invariant-loop-list : goal.invariant-loop-list
invariant-loop-list l = l.all ≡ union_over (λ xs. xs) (take l.list-index l.lists)
