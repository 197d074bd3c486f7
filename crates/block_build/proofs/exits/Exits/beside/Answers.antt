-- The rules to leave by hold what the receiver's own do.
use Rattle.std.proofs.Common.{◌≡◌, IfOk, sym, ap, ◌∙◌, subst}
use Rattle.cells.specs.Firsts.{first_place}
use Rattle.classifier.specs.Items.{add_all}
use Rattle.classifier.specs.Meaning.{cubes_of}
use Rattle.block_build.proofs.ByCellLemmas.{held-everything}
use Rattle.block_build.proofs.ShapeBlocks.{cubes-received}
use Rattle.block_build.specs.ByCells.{held_by}
use Rattle.block_build.specs.Groups.{lines_within}
use Rattle.block_build.specs.Kept.{kept_lines}
use Rattle.block_build.specs.Receivers.{received_lines}
use Rattle.block_build.specs.declared.kept.Kept.{Kept}
use Rattle.block_build.specs.declared.receive.Receiver.{Receiver}
use Rattle.block_build.proofs.exits.Exits.beside.Goals as goal

pub beside_many-requires : goal.beside_many-requires
beside_many-requires c =
    let rows = c.in-Many.rows in
    c.requires
    ∙ ap (first_place c.args.cell.now) (sym (ap (λ (r : Receiver). cubes_of r.lines) c.self.view_is)
    ∙ ap (λ (kept : Kept). cubes_of (kept_lines kept)) c.in-Many.is
    ∙ cubes-received rows.hop (lines_within rows.groups.items) ∙ ap cubes_of rows.same)

pub returns-in-Many : goal.returns-in-Many
returns-in-Many c =
    let rows = c.in-Many.rows in
    subst (λ (r : Receiver). IfOk c.beside_many.result (λ v. v ≡ add_all c.args.others (held_by c.args.cell.now r.lines))) c.self.view_is
    (subst (λ (kept : Kept). IfOk c.beside_many.result (λ v. v ≡ add_all c.args.others (held_by c.args.cell.now (kept_lines kept)))) (sym c.in-Many.is)
    (subst (λ ys. IfOk c.beside_many.result (λ v. v ≡ add_all c.args.others (held_by c.args.cell.now (received_lines rows.hop ys)))) (sym rows.same) c.beside_many.ensures))

pub returns-in-Alone : goal.returns-in-Alone
returns-in-Alone c =
    subst (λ (r : Receiver). IfOk c.joined_with.result (λ v. v ≡ add_all c.args.others (held_by c.args.cell.now r.lines))) c.self.view_is
    (subst (λ (kept : Kept). IfOk c.joined_with.result (λ v. v ≡ add_all c.args.others (held_by c.args.cell.now (kept_lines kept)))) (sym c.in-Alone.is)
    (subst (λ items. IfOk c.joined_with.result (λ v. v ≡ add_all c.args.others items)) (sym (held-everything c.args.cell.now c.in-Alone.results)) c.joined_with.ensures))
