use Rattle.std.proofs.Common.{sym, ◌∙◌}
use Rattle.std.specs.Prelude.{slice_index_or}
use Rattle.fast_path.proofs.BlockLemmas.{index_same}
use Rattle.net_types.specs.declared.rule.Pair.{Pair}
use Rattle.job_end.proofs.Swapped.{next_fewer, swap_step}
use Rattle.job_end.proofs.swapping.swap_all.Goals as goal

pub swap_one-requires-clause-fewer : goal.swap_one-requires-clause-fewer
swap_one-requires-clause-fewer g c =
    let pairs = c.args.pairs.now in
    let at = c.loop-pair.pair-index in
    let pair : Pair = slice_index_or pairs at (record { port = record { 0 = 0 }; tag = record { 0 = 0 } }) in
    next_fewer (g.B.Blocks.installed c.loop-pair.switch).table c.loop-pair.built pair pairs at c.loop-pair-test.true (sym (index_same pairs at _ c.loop-pair-test.true)) c.loop-pair.invariant.fewer

pub loop-pair-preserved : goal.loop-pair-preserved
loop-pair-preserved g c =
    let pairs = c.args.pairs.now in
    let at = c.loop-pair.pair-index in
    let pair : Pair = slice_index_or pairs at (record { port = record { 0 = 0 }; tag = record { 0 = 0 } }) in
    let next = swap_step (g.B.Blocks.installed c.loop-pair.switch).table (g.B.Blocks.installed c.swap_one.new.switch).table c.loop-pair.built c.swap_one.new.built pair c.swap_one.ensures.table c.swap_one.ensures.built
    pairs at c.loop-pair-test.true (sym (index_same pairs at _ c.loop-pair-test.true)) c.loop-pair.invariant.rising c.loop-pair.invariant.fewer in record {
      rest = next.rest ∙ c.loop-pair.invariant.rest;
      rising = next.rising;
      fewer = next.fewer;
      few = c.swap_one.ensures.few;
      capacity = c.swap_one.ensures.capacity ∙ c.loop-pair.invariant.capacity;
    }
