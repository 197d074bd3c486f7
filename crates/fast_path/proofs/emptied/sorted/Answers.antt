-- What was sorted by a key doesn't fall by it.
use Rattle.std.proofs.Common.{rules}
use Rattle.std.proofs.lemmas.List.Sorted.{IsNonDecreasingBy-from_sort_by_key}
use Rattle.net_types.specs.declared.address.Tag.{Tag}
use Rattle.fast_path.proofs.emptied.sorted.Goals as goal

pub returns-clause-sorted : goal.returns-clause-sorted
returns-clause-sorted c = IsNonDecreasingBy-from_sort_by_key (λ (t : Tag). t.0) _ c.sort_unstable_by_key.ensures.sorted (λ a r q k. search rules)
