use Rattle.next_hop_pool.proofs.RunLemmas.{held_none}
use Rattle.next_hop_pool.proofs.pool.Pool.none.Goals as goal

pub invariant_of-result : goal.invariant_of-result
invariant_of-result c = held_none _ _ c.new.ensures.items c.new-2.ensures.items
