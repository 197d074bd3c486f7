-- Below the mark all places are taken, and the search found no free one in the rest of the run.
use Rattle.std.proofs.Common.{length, ap, arith}
use Rattle.next_hop_pool.proofs.RunLemmas.{lent_marked, run_marked, run_taken}
use Rattle.next_hop_pool.proofs.pool.Pool.mark_run.Goals as goal

pub first_free-requires : goal.first_free-requires
first_free-requires c =
    let size = ap length c.as_slice.ensures.value in
    record {
      marked = lent_marked _ _ _ _ c.as_slice.ensures.value c.as_slice-2.ensures.value c.self.invariant.marked;
      small = omega (arith, size, c.self.invariant.kept.small);
    }

pub invariant_of-self : goal.invariant_of-self
invariant_of-self c =
    record {
      kept = c.self.invariant.kept;
      marked = run_marked c.self.inside.taken.items c.self.inside.full.items _
          (run_taken c.self.inside.taken.items _ c.self.inside.least _ c.first_free.result _ c.as_slice.ensures.value c.max-from.ensures c.self.invariant.kept.full c.first_free.ensures.skipped (omega arith))
          c.self.invariant.marked;
    }
