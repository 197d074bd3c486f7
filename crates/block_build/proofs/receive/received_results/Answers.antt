-- None of the results leaves as another does.
use Rattle.std.proofs.Common.{subst}
use Rattle.block_build.specs.Receivers.{AreApart}
use Rattle.block_build.proofs.receive.received_results.Goals as goal

pub exits_apart-requires : goal.exits_apart-requires
exits_apart-requires c = subst (AreApart c.args.hop) c.items.ensures (c.are_apart.ensures c.if-are_apart.true)
