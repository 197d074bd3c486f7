use Rattle.std.proofs.Common.{sym, subst}
use Rattle.classifier.specs.Gathered.{Knows}
use Rattle.classifier.proofs.GatherLemmas.{knows_more}
use Rattle.classifier.proofs.gathering.push_new.Goals as goal

pub returns-in_ok-put_last-clause-knows : goal.returns-in_ok-put_last-clause-knows
returns-in_ok-put_last-clause-knows c =
    subst (λ xs. Knows xs c.insert.new.self) (sym c.in_ok-put_last.ensures)
    (knows_more c.args.results.now c.args.seen.now c.insert.new.self c.args.pair c.requires (rw c.key_of.ensures at c.in_ok-is_new.ensures.updates.0))
