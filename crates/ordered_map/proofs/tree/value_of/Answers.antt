use Rattle.std.proofs.Common.{sym, ap, ◌∙◌}
use Rattle.std.specs.FinMap.Entries.{find}
use Rattle.ordered_map.specs.Entries.{entries_of, node_entries}
use Rattle.ordered_map.specs.Runs.{run_entries}
use Rattle.ordered_map.proofs.SplitLemmas.{sorted_front}
use Rattle.ordered_map.proofs.PutLemmas.{all_of, find_here, forked_beside, sought_beyond, sought_left}
use Rattle.ordered_map.proofs.tree.value_of.Goals as goal

pub loop-here-preserved-in-Less : goal.loop-here-preserved-in-Less
loop-here-preserved-in-Less g c =
    let forked = forked_beside g.K.Ord.cmp (run_entries c.loop-here.run) (ap entries_of c.in-Fork.is) (sym c.deref.ensures ∙ c.in-Full.is) c.loop-here.invariant.0 in
    let sought = sought_left g.K.Ord.cmp c.args.key.now g.met.K.Ord.total forked (sym c.cmp.ensures ∙ c.in-Less.is) in
    (sought.rising, c.loop-here.invariant.1 ∙ sought.find_is)

pub returns-in-Equal : goal.returns-in-Equal
returns-in-Equal g c =
    let forked = forked_beside g.K.Ord.cmp (run_entries c.loop-here.run) (ap entries_of c.in-Fork.is) (sym c.deref.ensures ∙ c.in-Full.is) c.loop-here.invariant.0 in
    sym (c.loop-here.invariant.1 ∙ find_here g.K.Ord.cmp c.args.key.now g.met.K.Ord.total forked (sym c.cmp.ensures ∙ c.in-Equal.is))

pub loop-here-preserved : goal.loop-here-preserved
loop-here-preserved g c =
    let forked = forked_beside g.K.Ord.cmp (run_entries c.loop-here.run) (ap entries_of c.in-Fork.is) (sym c.deref.ensures ∙ c.in-Full.is) c.loop-here.invariant.0 in
    let sought = sought_beyond g.K.Ord.cmp c.args.key.now g.met.K.Ord.total forked (sym c.cmp.ensures ∙ c.in-Greater.is) in
    (sought.rising, c.loop-here.invariant.1 ∙ sought.find_is)

pub value_in-requires : goal.value_in-requires
value_in-requires g c = sorted_front g.K.Ord.cmp (run_entries c.loop-here.run) (entries_of c.loop-here.here.now) c.loop-here.invariant.0

pub value_in-requires-2 : goal.value_in-requires-2
value_in-requires-2 g c = sorted_front g.K.Ord.cmp (run_entries c.loop-here.run) (entries_of c.loop-here.here.now) c.loop-here.invariant.0

pub returns-in-Blank : goal.returns-in-Blank
returns-in-Blank g c = c.value_in.ensures ∙ sym (c.loop-here.invariant.1 ∙ ap (find g.K.Ord.cmp c.args.key.now) (all_of (run_entries c.loop-here.run) (ap entries_of c.in-Fork.is ∙ ap node_entries (sym c.deref.ensures ∙ c.in-Blank.is))))

pub returns : goal.returns
returns g c = c.value_in-2.ensures ∙ sym (c.loop-here.invariant.1 ∙ ap (find g.K.Ord.cmp c.args.key.now) (all_of (run_entries c.loop-here.run) (ap entries_of c.in_default.is)))
