-- Below the new mark all places are taken: the search found no free one.
use Rattle.std.proofs.Common.{◌∙◌, sym, length, ap, arith, get_or, true}
use Rattle.next_hop_pool.proofs.FreeLemmas.{taken_before}
use Rattle.next_hop_pool.proofs.RunLemmas.{lent_marked}
use Rattle.next_hop_pool.proofs.pool.Pool.raise_least.Goals as goal

pub first_free-self-inside-requires : goal.first_free-self-inside-requires
first_free-self-inside-requires c =
    let size = ap length c.as_slice.ensures.value in
    record {
      marked = lent_marked _ _ _ _ c.as_slice.ensures.value c.as_slice-2.ensures.value c.self.invariant.marked;
      small = omega (arith, size, c.self.invariant.kept.small);
    }

pub invariant_of-self : goal.invariant_of-self
invariant_of-self c =
    let kept = c.self.invariant.kept in
    record {
      kept = record {
        small = kept.small;
        within = kept.within;
        full = taken_before c.self.inside.taken.items c.self.inside.least c.first_free-self-inside.result kept.full (λ k le lt. ap (λ xs. get_or xs k true) (sym c.as_slice.ensures.value) ∙ c.first_free-self-inside.ensures.skipped k le lt);
        count = kept.count;
      };
      marked = c.self.invariant.marked;
    }
