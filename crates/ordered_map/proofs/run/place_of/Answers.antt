-- The key stands last, or is past them all.
use Rattle.std.proofs.Common.{◌-◌, ◌+◌, length, sym, subst, ◌∙◌, arith, ◌<◌}
use Rattle.std.proofs.lemmas.List.{length-take-le, take_all}
use Rattle.std.specs.declared.cmp.Ordering.TheVariants.{Equal}
use Rattle.ordered_map.specs.Runs.{IsFirst, IsPast, IsLess}
use Rattle.ordered_map.proofs.RunLemmas.{past_through, tied_at}
use Rattle.ordered_map.proofs.SizeLemmas.{last_within, less_at, one_less, past_few}
use Rattle.ordered_map.proofs.run.place_of.Goals as goal

pub returns-in-Equal : goal.returns-in-Equal
returns-in-Equal g c =
    let es = c.args.entries.now in
    let some = c.in-len1-up.len_at_least in
    subst (λ n. IsFirst g.K.Ord.cmp c.args.key.now es n Equal) (sym (length-take-le (length es - 1) es (omega (arith))))
    (tied_at g.K.Ord.cmp c.args.key.now es (length es - 1) c.last-item.result (omega (arith, some)) c.last-item.is g.met.K.Ord.total c.requires.rising (sym c.cmp.ensures ∙ c.in-Equal.is))

pub returns-in-Greater : goal.returns-in-Greater
returns-in-Greater g c =
    let es = c.args.entries.now in
    let some = c.in-len1-up.len_at_least in
    subst (IsPast g.K.Ord.cmp c.args.key.now) (take_all (length es - 1 + 1) es (omega (arith, some)))
    (past_through g.K.Ord.cmp c.args.key.now es (length es - 1) c.last-item.result (omega (arith, some)) c.last-item.is g.met.K.Ord.total c.requires.rising (sym c.cmp.ensures ∙ c.in-Greater.is))

pub returns-in_default : goal.returns-in_default
returns-in_default g c = past_few g.K.Ord.cmp c.args.key.now c.args.entries.now c.in_default.len_below

pub overflow_sub-last : goal.overflow_sub-last
overflow_sub-last g c = c.in-len1-up.len_at_least

pub offset_bounds-entries-entries : goal.offset_bounds-entries-entries
offset_bounds-entries-entries g c = one_less (length c.args.entries.now)

pub slice_bounds-lesser-count : goal.slice_bounds-lesser-count
slice_bounds-lesser-count g c = c.in-len1-up.len_at_least

pub bounds-entries-entries : goal.bounds-entries-entries
bounds-entries-entries g c = last_within (length c.args.entries.now) c.in-len1-up.len_at_least

pub slice_bounds-lesser-length : goal.slice_bounds-lesser-length
slice_bounds-lesser-length g c = sym (length-take-le (length c.args.entries.now - 1) c.args.entries.now (one_less (length c.args.entries.now)))

pub place_before-requires-clause-rising : goal.place_before-requires-clause-rising
place_before-requires-clause-rising g c = c.requires.rising

pub place_before-requires-clause-few : goal.place_before-requires-clause-few
place_before-requires-clause-few g c = c.requires.few

pub place_before-requires-clause-within : goal.place_before-requires-clause-within
place_before-requires-clause-within g c = subst (λ n. n < length c.args.entries.now) (sym (length-take-le (length c.args.entries.now - 1) c.args.entries.now (one_less (length c.args.entries.now)))) (last_within (length c.args.entries.now) c.in-len1-up.len_at_least)

pub place_before-requires-clause-less : goal.place_before-requires-clause-less
place_before-requires-clause-less g c = subst (λ n. IsLess g.K.Ord.cmp c.args.key.now c.args.entries.now n) (sym (length-take-le (length c.args.entries.now - 1) c.args.entries.now (one_less (length c.args.entries.now)))) (less_at g.K.Ord.cmp c.args.key.now c.args.entries.now (length c.args.entries.now - 1) c.last-item.result (last_within (length c.args.entries.now) c.in-len1-up.len_at_least) c.last-item.is (sym c.cmp.ensures ∙ c.in-Less.is))

pub returns-in-Less : goal.returns-in-Less
returns-in-Less g c = c.place_before.ensures
