-- A key that isn't past all entries leaves them alone or takes one out. Where one is past all, so are those after it.
use Rattle.std.proofs.Common.{sym, ◌∙◌, arith}
use Rattle.std.specs.Prelude.{Some, None}
use Rattle.ordered_map.proofs.EachLemmas.{gone_one, gone_past}
use Rattle.ordered_map.proofs.WeightLemmas.{took}
use Rattle.ordered_map.proofs.leaving.take_among.Goals as goal

pub returns-then-is_below-clause-entries : goal.returns-then-is_below-clause-entries
returns-then-is_below-clause-entries g c =
    gone_past g.K.Ord.cmp g.met.K.Ord.total c.args.keys.now c.args.others.now c.loop-rest.rest.now c.key-item.result c.loop-rest.others c.loop-rest.invariant.gone c.in-len1-up.len_at_least c.key-item.is c.if-is_below.ensures.past

pub count-requires : goal.count-requires
count-requires g c =
    let it = took g.K.Ord.cmp g.met.K.Ord.total g.T.Tally.weight c.key-item.result c.loop-rest.others c.take.new.self (Some c.in-Some.value) c.loop-rest.invariant.gone.rising c.take.ensures.entries (sym c.in-Some.is ∙ c.take.ensures.value) in
    omega (arith, it.weight, c.loop-rest.invariant.tally, c.requires.few)

pub loop-rest-preserved-in-Some : goal.loop-rest-preserved-in-Some
loop-rest-preserved-in-Some g c =
    let it = took g.K.Ord.cmp g.met.K.Ord.total g.T.Tally.weight c.key-item.result c.loop-rest.others c.take.new.self (Some c.in-Some.value) c.loop-rest.invariant.gone.rising c.take.ensures.entries (sym c.in-Some.is ∙ c.take.ensures.value) in
    record {
      gone = gone_one g.K.Ord.cmp g.met.K.Ord.total c.args.keys.now c.args.others.now c.loop-rest.rest.now c.key-item.result c.loop-rest.others c.take.new.self c.loop-rest.invariant.gone c.in-len1-up.len_at_least c.key-item.is c.if-is_below.ensures.within c.take.ensures.entries;
      count = omega (arith, it.size, c.loop-rest.invariant.count, c.requires.count);
      tally = omega (arith, it.weight, c.loop-rest.invariant.tally, c.count.ensures);
    }

pub loop-rest-preserved : goal.loop-rest-preserved
loop-rest-preserved g c =
    let it = took g.K.Ord.cmp g.met.K.Ord.total g.T.Tally.weight c.key-item.result c.loop-rest.others c.take.new.self None c.loop-rest.invariant.gone.rising c.take.ensures.entries (sym c.in_default-take.is ∙ c.take.ensures.value) in
    record {
      gone = gone_one g.K.Ord.cmp g.met.K.Ord.total c.args.keys.now c.args.others.now c.loop-rest.rest.now c.key-item.result c.loop-rest.others c.take.new.self c.loop-rest.invariant.gone c.in-len1-up.len_at_least c.key-item.is c.if-is_below.ensures.within c.take.ensures.entries;
      count = omega (arith, it.size, c.loop-rest.invariant.count);
      tally = omega (arith, it.weight, c.loop-rest.invariant.tally);
    }
