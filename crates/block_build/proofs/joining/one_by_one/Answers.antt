-- Rules that are joined one by one are built.
use Rattle.block_build.proofs.ByCellLemmas.{some-built}
use Rattle.block_build.proofs.joining.one_by_one.Goals as goal

pub returns-in-Ok : goal.returns-in-Ok
returns-in-Ok c =
    let sending = c.args.sending.now in
    some-built c.args.limit sending.best sending.offers.now c.args.receivers.now sending.rules.now c.in-Ok.lines.items c.in-Ok.ensures
