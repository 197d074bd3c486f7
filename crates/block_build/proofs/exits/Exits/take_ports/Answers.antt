-- The ports of the rules to leave by are those of the receiver's own.
use Rattle.std.proofs.Common.{OnOk, sym, subst}
use Rattle.block_build.specs.Kept.{kept_lines}
use Rattle.block_build.specs.Ports.{AllTaken}
use Rattle.block_build.specs.Receivers.{received_lines}
use Rattle.block_build.specs.declared.kept.Kept.{Kept}
use Rattle.block_build.specs.declared.receive.Receiver.{Receiver}
use Rattle.block_build.proofs.exits.Exits.take_ports.Goals as goal

pub returns-in-Many-clause-taken : goal.returns-in-Many-clause-taken
returns-in-Many-clause-taken c =
    let rows = c.in-Many.rows in
    let ports = c.take_received.new.ports in
    subst (λ (r : Receiver). OnOk c.take_received.result (AllTaken ports r.lines)) c.self.view_is
    (subst (λ (kept : Kept). OnOk c.take_received.result (AllTaken ports (kept_lines kept))) (sym c.in-Many.is)
    (subst (λ ys. OnOk c.take_received.result (AllTaken ports (received_lines rows.hop ys))) (sym rows.same) c.take_received.ensures.taken))
