use Rattle.std.proofs.Common.{false, replicate, sym, subst}
use Rattle.next_hop_pool.specs.Runs.{IsHeld}
use Rattle.next_hop_pool.proofs.RunLemmas.{held_new}
use Rattle.next_hop_pool.proofs.pool.Pool.new.Goals as goal

pub invariant_of-result : goal.invariant_of-result
invariant_of-result c =
    subst (λ bs. IsHeld c.args.base.0 bs c.in_ok-full.full.items 0 c.args.size) (sym (c.in_ok-taken.ensures.items_if_clones_equal (λ y e. e)))
    (subst (λ fs. IsHeld c.args.base.0 (replicate c.args.size false) fs 0 c.args.size) (sym (c.in_ok-full.ensures.items_if_clones_equal (λ y e. e)))
    (held_new c.args.base.0 c.args.size c.requires.few c.requires.within))
