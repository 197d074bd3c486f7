use Rattle.std.proofs.Common.{◌≡◌, true, sym, ap, ◌∙◌}
use Rattle.std.specs.Option.{option_map}
use Rattle.std.specs.Ordering.{is_lt}
use Rattle.std.specs.Map.Iter.{deref_pair}
use Rattle.ordered_map.specs.Entries.{entries_of, node_entries, above, first_or, head_of}
use Rattle.ordered_map.specs.Runs.{run_entries}
use Rattle.ordered_map.proofs.SplitLemmas.{sorted_front}
use Rattle.ordered_map.proofs.PutLemmas.{all_of, forked_beside}
use Rattle.ordered_map.proofs.WalkLemmas.{after_entry, best_before, rising_before}
use Rattle.ordered_map.proofs.tree.next_after.Goals as goal

pub loop-here-preserved-then-is_lt : goal.loop-here-preserved-then-is_lt
loop-here-preserved-then-is_lt g c =
    let forked = forked_beside g.K.Ord.cmp (run_entries c.loop-here.run) (ap entries_of c.in-Fork.is) (sym c.deref.ensures ∙ c.in-Full.is) c.loop-here.invariant.0 in
    let low : is_lt (g.K.Ord.cmp c.args.key.now c.in-Full.held) ≡ true = ap is_lt (sym c.cmp.ensures) ∙ sym c.is_lt.ensures ∙ c.if-is_lt.true in
    (rising_before g.K.Ord.cmp c.args.key.now g.met.K.Ord.total forked low, c.loop-here.invariant.1 ∙ best_before g.K.Ord.cmp c.args.key.now g.met.K.Ord.total forked low (option_map deref_pair c.loop-here.best))

pub loop-here-preserved : goal.loop-here-preserved
loop-here-preserved g c =
    let forked = forked_beside g.K.Ord.cmp (run_entries c.loop-here.run) (ap entries_of c.in-Fork.is) (sym c.deref.ensures ∙ c.in-Full.is) c.loop-here.invariant.0 in
    let after = after_entry g.K.Ord.cmp c.args.key.now g.met.K.Ord.total forked (ap is_lt (sym c.cmp.ensures) ∙ sym c.is_lt.ensures ∙ c.if-is_lt.false) in
    (after.rising, c.loop-here.invariant.1 ∙ ap (λ es. first_or (head_of es) (option_map deref_pair c.loop-here.best)) after.above_is)

pub next_in-requires : goal.next_in-requires
next_in-requires g c = sorted_front g.K.Ord.cmp (run_entries c.loop-here.run) (entries_of c.loop-here.here.now) c.loop-here.invariant.0

pub next_in-requires-2 : goal.next_in-requires-2
next_in-requires-2 g c = sorted_front g.K.Ord.cmp (run_entries c.loop-here.run) (entries_of c.loop-here.here.now) c.loop-here.invariant.0

pub returns-in-Blank : goal.returns-in-Blank
returns-in-Blank g c = c.next_in.ensures ∙ sym (c.loop-here.invariant.1 ∙ ap (λ es. first_or (head_of (above g.K.Ord.cmp c.args.key.now es)) (option_map deref_pair c.loop-here.best)) (all_of (run_entries c.loop-here.run) (ap entries_of c.in-Fork.is ∙ ap node_entries (sym c.deref.ensures ∙ c.in-Blank.is))))

pub returns : goal.returns
returns g c = c.next_in-2.ensures ∙ sym (c.loop-here.invariant.1 ∙ ap (λ es. first_or (head_of (above g.K.Ord.cmp c.args.key.now es)) (option_map deref_pair c.loop-here.best)) (all_of (run_entries c.loop-here.run) (ap entries_of c.in_default.is)))
