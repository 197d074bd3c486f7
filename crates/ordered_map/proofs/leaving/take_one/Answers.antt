-- The entry that is gone counted one, and its value what it weighs.
use Rattle.std.proofs.Common.{sym, ◌∙◌, arith}
use Rattle.std.specs.Prelude.{Some, None}
use Rattle.ordered_map.specs.Entries.{entries_of}
use Rattle.ordered_map.proofs.WeightLemmas.{took}
use Rattle.ordered_map.proofs.leaving.take_one.Goals as goal

pub count-requires : goal.count-requires
count-requires g c =
    let it = took g.K.Ord.cmp g.met.K.Ord.total g.T.Tally.weight c.args.key.now (entries_of c.args.tree.now) (entries_of c.take_from.new.tree) (Some c.in-Some.value) c.requires.rising c.take_from.ensures.entries (sym c.in-Some.is ∙ c.take_from.ensures.value) in
    omega (arith, it.weight, c.requires.few)

pub returns-in-Some-clause-rising : goal.returns-in-Some-clause-rising
returns-in-Some-clause-rising g c =
    let it = took g.K.Ord.cmp g.met.K.Ord.total g.T.Tally.weight c.args.key.now (entries_of c.args.tree.now) (entries_of c.take_from.new.tree) (Some c.in-Some.value) c.requires.rising c.take_from.ensures.entries (sym c.in-Some.is ∙ c.take_from.ensures.value) in
    it.rising

pub returns-in-Some-clause-count : goal.returns-in-Some-clause-count
returns-in-Some-clause-count g c =
    let it = took g.K.Ord.cmp g.met.K.Ord.total g.T.Tally.weight c.args.key.now (entries_of c.args.tree.now) (entries_of c.take_from.new.tree) (Some c.in-Some.value) c.requires.rising c.take_from.ensures.entries (sym c.in-Some.is ∙ c.take_from.ensures.value) in
    omega (arith, it.size, c.requires.count)

pub returns-in-Some-clause-tally : goal.returns-in-Some-clause-tally
returns-in-Some-clause-tally g c =
    let it = took g.K.Ord.cmp g.met.K.Ord.total g.T.Tally.weight c.args.key.now (entries_of c.args.tree.now) (entries_of c.take_from.new.tree) (Some c.in-Some.value) c.requires.rising c.take_from.ensures.entries (sym c.in-Some.is ∙ c.take_from.ensures.value) in
    omega (arith, it.weight, c.count.ensures)

pub returns-in_default-clause-rising : goal.returns-in_default-clause-rising
returns-in_default-clause-rising g c =
    let it = took g.K.Ord.cmp g.met.K.Ord.total g.T.Tally.weight c.args.key.now (entries_of c.args.tree.now) (entries_of c.take_from.new.tree) None c.requires.rising c.take_from.ensures.entries (sym c.in_default.is ∙ c.take_from.ensures.value) in
    it.rising

pub returns-in_default-clause-count : goal.returns-in_default-clause-count
returns-in_default-clause-count g c =
    let it = took g.K.Ord.cmp g.met.K.Ord.total g.T.Tally.weight c.args.key.now (entries_of c.args.tree.now) (entries_of c.take_from.new.tree) None c.requires.rising c.take_from.ensures.entries (sym c.in_default.is ∙ c.take_from.ensures.value) in
    omega (arith, it.size)

pub returns-in_default-clause-tally : goal.returns-in_default-clause-tally
returns-in_default-clause-tally g c =
    let it = took g.K.Ord.cmp g.met.K.Ord.total g.T.Tally.weight c.args.key.now (entries_of c.args.tree.now) (entries_of c.take_from.new.tree) None c.requires.rising c.take_from.ensures.entries (sym c.in_default.is ∙ c.take_from.ensures.value) in
    omega (arith, it.weight)
