-- The rules to leave by have the cubes of the receiver's own, or that of all headers.
use Rattle.std.proofs.Common.{sym, subst}
use Rattle.block_build.proofs.ClosedLemmas.{meets_alone, meets_received}
use Rattle.block_build.specs.Bounds.{AreMeets}
use Rattle.block_build.specs.Groups.{lines_within}
use Rattle.block_build.specs.Kept.{kept_lines}
use Rattle.block_build.specs.declared.kept.Kept.{Kept}
use Rattle.block_build.specs.declared.receive.Receiver.{Receiver}
use Rattle.block_build.proofs.exits.Exits.tests.Goals as goal

pub returns-in-Alone : goal.returns-in-Alone
returns-in-Alone c =
    let made = c.new.result.items in
    subst (λ (r : Receiver). AreMeets c.new.result.items r.lines) c.self.view_is
    (subst (λ (kept : Kept). AreMeets c.new.result.items (kept_lines kept)) (sym c.in-Alone.is) (meets_alone made c.in-Alone.field-0))

pub returns-in_ok-tests-in-Many : goal.returns-in_ok-tests-in-Many
returns-in_ok-tests-in-Many c =
    let made = c.in_ok-tests-in-Many.tests.items in
    let rows = c.in-Many.rows in
    subst (λ (r : Receiver). AreMeets c.in_ok-tests-in-Many.tests.items r.lines) c.self.view_is
    (subst (λ (kept : Kept). AreMeets c.in_ok-tests-in-Many.tests.items (kept_lines kept)) (sym c.in-Many.is)
    (meets_received made rows.hop (lines_within rows.groups.items) (subst (AreMeets c.in_ok-tests-in-Many.tests.items) (sym rows.same) c.in_ok-tests-in-Many.ensures)))
