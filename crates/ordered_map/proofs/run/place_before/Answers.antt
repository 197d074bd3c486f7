-- The half where the key can't stand is left out.
use Rattle.std.proofs.Common.{◌≡◌, ◌<◌, ◌+◌, ◌/◌, take, ap, sym, subst, ◌∙◌, arith, length}
use Rattle.ordered_map.specs.Runs.{IsPast}
use Rattle.ordered_map.proofs.RunLemmas.{free_at, past_through, tied_at}
use Rattle.ordered_map.proofs.SizeLemmas.{any_size, less_at, lower_half, middle_after, middle_bound, middle_within, next_fits, sum_fits, upper_half}
use Rattle.ordered_map.proofs.run.place_before.Goals as goal

pub returns-in-Equal : goal.returns-in-Equal
returns-in-Equal g c =
    tied_at g.K.Ord.cmp c.args.key.now c.args.entries.now ((c.loop-from.from + c.loop-from.to) / 2) c.index-entries-middle.result (omega (arith, c.loop-from-test.true, c.loop-from.invariant.within)) c.index-entries-middle.is g.met.K.Ord.total c.requires.rising (ap (λ y. g.K.Ord.cmp c.args.key.now y.0) c.index-entries-middle.is ∙ sym c.cmp.ensures ∙ c.in-Equal.is)

pub loop-from-preserved : goal.loop-from-preserved
loop-from-preserved g c =
    let within : (c.loop-from.from + c.loop-from.to) / 2 < c.loop-from.to = omega (arith, c.loop-from-test.true) in
    record {
      past = past_through g.K.Ord.cmp c.args.key.now c.args.entries.now ((c.loop-from.from + c.loop-from.to) / 2) c.index-entries-middle.result (omega (arith, within, c.loop-from.invariant.within)) c.index-entries-middle.is g.met.K.Ord.total c.requires.rising (ap (λ y. g.K.Ord.cmp c.args.key.now y.0) c.index-entries-middle.is ∙ sym c.cmp.ensures ∙ c.in-Greater.is);
      order = omega (arith, within);
      within = c.loop-from.invariant.within;
      low = c.loop-from.invariant.low;
    }

pub returns : goal.returns
returns g c =
    let all : c.loop-from.from ≡ c.loop-from.to = omega (arith, c.loop-from-test.false, c.loop-from.invariant.order) in
    free_at g.K.Ord.cmp c.args.key.now c.args.entries.now c.loop-from.to c.loop-from.invariant.within (subst (λ n. IsPast g.K.Ord.cmp c.args.key.now (take n c.args.entries.now)) all c.loop-from.invariant.past) c.loop-from.invariant.low

pub loop-from-init : goal.loop-from-init
loop-from-init g c = record { past = tt; order = any_size c.args.greater; within = c.requires.within; low = c.requires.less }

pub overflow_add-middle : goal.overflow_add-middle
overflow_add-middle g c = sum_fits c.loop-from.from c.loop-from.to (length c.args.entries.now) c.loop-from-test.true c.loop-from.invariant.within c.requires.few

pub offset_bounds-entries-middle : goal.offset_bounds-entries-middle
offset_bounds-entries-middle g c = middle_bound c.loop-from.from c.loop-from.to (length c.args.entries.now) c.loop-from-test.true c.loop-from.invariant.within

pub bounds-entries-middle : goal.bounds-entries-middle
bounds-entries-middle g c = middle_within c.loop-from.from c.loop-from.to (length c.args.entries.now) c.loop-from-test.true c.loop-from.invariant.within

pub loop-from-smaller-in-Less : goal.loop-from-smaller-in-Less
loop-from-smaller-in-Less g c = lower_half c.loop-from.from c.loop-from.to (length c.args.entries.now) c.loop-from-test.true c.loop-from.invariant.within

pub loop-from-preserved-in-Less : goal.loop-from-preserved-in-Less
loop-from-preserved-in-Less g c = record { past = c.loop-from.invariant.past; order = middle_after c.loop-from.from c.loop-from.to (length c.args.entries.now) c.loop-from-test.true c.loop-from.invariant.within; within = middle_within c.loop-from.from c.loop-from.to (length c.args.entries.now) c.loop-from-test.true c.loop-from.invariant.within; low = less_at g.K.Ord.cmp c.args.key.now c.args.entries.now ((c.loop-from.from + c.loop-from.to) / 2) c.index-entries-middle.result (middle_within c.loop-from.from c.loop-from.to (length c.args.entries.now) c.loop-from-test.true c.loop-from.invariant.within) c.index-entries-middle.is (ap (λ y. g.K.Ord.cmp c.args.key.now y.0) c.index-entries-middle.is ∙ sym c.cmp.ensures ∙ c.in-Less.is) }

pub overflow_add-from : goal.overflow_add-from
overflow_add-from g c = next_fits c.loop-from.from c.loop-from.to (length c.args.entries.now) c.loop-from-test.true c.loop-from.invariant.within c.requires.few

pub loop-from-smaller : goal.loop-from-smaller
loop-from-smaller g c = upper_half c.loop-from.from c.loop-from.to (length c.args.entries.now) c.loop-from-test.true c.loop-from.invariant.within
