use Rattle.std.proofs.Common.{◌<◌, ◌-◌, ◌+◌, length, sym, ap, subst, ◌∙◌, arith, get_or, set, true, false}
use Rattle.next_hop_pool.specs.Free.{Tags, IsKept}
use Rattle.next_hop_pool.proofs.FreeLemmas.{kept_given}
use Rattle.next_hop_pool.proofs.RunLemmas.{given_marked}
use Rattle.next_hop_pool.proofs.pool.Pool.give_back.Goals as goal

pub overflow_add-self : goal.overflow_add-self
overflow_add-self c =
    let within : c.args.tag.0 - 1 < length c.self.inside.taken.items = omega (arith, c.requires.within.above, c.requires.within.within, ap (λ (s : Tags). length s.taken) c.self.view_is) in
    let few = (kept_given _ c.self.inside.least c.self.inside.free c.self.inside.taken.items (c.args.tag.0 - 1) c.self.invariant.kept within (ap (λ (s : Tags). get_or s.taken (c.args.tag.0 - 1) true) c.self.view_is ∙ c.requires.taken)).1 in
    omega (arith, few)

pub invariant_of-self : goal.invariant_of-self
invariant_of-self c =
    let within : c.args.tag.0 - 1 < length c.self.inside.taken.items = omega (arith, c.requires.within.above, c.requires.within.within, ap (λ (s : Tags). length s.taken) c.self.view_is) in
    let it = (kept_given _ c.self.inside.least c.self.inside.free c.self.inside.taken.items (c.args.tag.0 - 1) c.self.invariant.kept within (ap (λ (s : Tags). get_or s.taken (c.args.tag.0 - 1) true) c.self.view_is ∙ c.requires.taken)).0 in
    record {
      kept = subst (λ n. IsKept c.self.inside.base (set c.self.inside.taken.items (c.args.tag.0 - 1) false) n (c.self.inside.free + 1)) (sym c.min-self-inside.ensures) it;
      marked = given_marked c.self.inside.taken.items c.self.inside.full.items (c.args.tag.0 - 1) within c.self.invariant.marked;
    }
