use Rattle.std.proofs.Common.{ap, length}
use Rattle.exchange_core.proofs.Told.{changes_told}
use Rattle.exchange_core.proofs.telling.tell_changes.Goals as goal

pub returns-clause-told : goal.returns-clause-told
returns-clause-told c =
    changes_told c.on_changes.result (length c.args.names.now.ports) (length c.ports.result.now) c.args.plan.now c.args.job.now c.on_changes.new.self c.args.fresh.now c.emptied.result.now c.added.result.now
    c.requires.fresh c.emptied.ensures c.added.ensures (ap length c.ports.ensures) (rw c.newly.ensures at c.on_changes.ensures.owed) c.on_changes.ensures.covers
