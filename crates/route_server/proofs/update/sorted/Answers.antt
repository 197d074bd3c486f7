use Rattle.std.proofs.Common.{rules}
use Rattle.std.proofs.lemmas.List.Sorted.{answers_always}
use Rattle.route_server.specs.declared.change.Change.{Change}
use Rattle.route_server.proofs.update.sorted.Goals as goal

pub returns-clause-sorted : goal.returns-clause-sorted
returns-clause-sorted c =
    c.sort_unstable_by_key.ensures.sorted (λ (d : Change). (d.prefix.address.0, d.prefix.len)) (answers_always _ _ _ (λ f a r next k. search rules))
