use Rattle.std.proofs.Common.{◌<◌, ◌-◌, length, ap, ◌∙◌, arith, get_or, true}
use Rattle.next_hop_pool.specs.Free.{Tags}
use Rattle.next_hop_pool.proofs.FreeLemmas.{kept_chosen}
use Rattle.next_hop_pool.proofs.RunLemmas.{taken_marked}
use Rattle.next_hop_pool.proofs.pool.Pool.take.Goals as goal

pub overflow_sub-self : goal.overflow_sub-self
overflow_sub-self c =
    let within : c.args.tag.0 - 1 < length c.self.inside.taken.items = omega (arith, c.requires.within.above, c.requires.within.within, ap (λ (s : Tags). length s.taken) c.self.view_is) in
    (kept_chosen _ c.self.inside.least c.self.inside.free c.self.inside.taken.items (c.args.tag.0 - 1) c.self.invariant.kept within (ap (λ (s : Tags). get_or s.taken (c.args.tag.0 - 1) true) c.self.view_is ∙ c.requires.free)).0

pub invariant_of-self : goal.invariant_of-self
invariant_of-self c =
    let within : c.args.tag.0 - 1 < length c.self.inside.taken.items = omega (arith, c.requires.within.above, c.requires.within.within, ap (λ (s : Tags). length s.taken) c.self.view_is) in
    record {
      kept = (kept_chosen _ c.self.inside.least c.self.inside.free c.self.inside.taken.items (c.args.tag.0 - 1) c.self.invariant.kept within (ap (λ (s : Tags). get_or s.taken (c.args.tag.0 - 1) true) c.self.view_is ∙ c.requires.free)).1;
      marked = taken_marked c.self.inside.taken.items c.self.inside.full.items (c.args.tag.0 - 1) within c.self.invariant.marked;
    }
