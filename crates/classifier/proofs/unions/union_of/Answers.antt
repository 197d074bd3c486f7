-- Beside none, the results are as they were.
use Rattle.std.proofs.Common.{◌≡◌, IfOk, subst}
use Rattle.classifier.proofs.UnionLemmas.{beside_none}
use Rattle.classifier.proofs.unions.union_of.Goals as goal

pub returns-then-is_empty : goal.returns-then-is_empty
returns-then-is_empty c = subst (λ all. IfOk c.copy.result (λ both. both ≡ all)) (beside_none c.args.first.now c.args.second.now (c.is_empty.ensures.0 c.if-is_empty.true) c.known.ensures) c.copy.ensures
