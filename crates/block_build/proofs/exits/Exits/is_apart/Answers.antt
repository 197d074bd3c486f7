-- The rules to leave by are free where the receiver's own are.
use Rattle.std.proofs.Common.{IsTrue, sym, subst}
use Rattle.block_build.specs.Kept.{kept_lines}
use Rattle.block_build.specs.Ports.{AllFree}
use Rattle.block_build.specs.Receivers.{received_lines}
use Rattle.block_build.specs.declared.kept.Kept.{Kept}
use Rattle.block_build.specs.declared.receive.Receiver.{Receiver}
use Rattle.block_build.proofs.exits.Exits.is_apart.Goals as goal

pub returns-in-Many : goal.returns-in-Many
returns-in-Many c =
    let rows = c.in-Many.rows in
    let ports = c.args.ports.now in
    subst (λ (r : Receiver). IsTrue c.are_lines_free.result → AllFree ports r.lines) c.self.view_is
    (subst (λ (kept : Kept). IsTrue c.are_lines_free.result → AllFree ports (kept_lines kept)) (sym c.in-Many.is)
    (subst (λ ys. IsTrue c.are_lines_free.result → AllFree ports (received_lines rows.hop ys)) (sym rows.same) c.are_lines_free.ensures))
