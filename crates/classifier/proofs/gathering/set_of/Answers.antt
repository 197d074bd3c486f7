-- One more pair is in the set.
use Rattle.std.proofs.Common.{sym, subst, get_or, take}
use Rattle.std.proofs.lemmas.List.{take_more}
use Rattle.net_types.specs.Headers.{no_change}
use Rattle.net_types.specs.declared.headers.Loc.TheVariants.{Stay}
use Rattle.classifier.specs.Gathered.{Knows}
use Rattle.classifier.proofs.GatherLemmas.{knows_more}
use Rattle.classifier.proofs.gathering.set_of.Goals as goal

pub loop-pair-preserved : goal.loop-pair-preserved
loop-pair-preserved c =
    let xs = c.args.pairs.now in
    let at = c.loop-pair.pair-index in
    let pair = get_or xs at (no_change, Stay) in
    subst (λ ys. Knows ys c.insert.new.self) (sym (take_more xs at (no_change, Stay) c.loop-pair-test.true))
    (knows_more (take at xs) c.loop-pair.seen c.insert.new.self pair c.loop-pair.invariant (rw c.key_of.ensures at c.in_ok-insert.ensures.updates.0))
