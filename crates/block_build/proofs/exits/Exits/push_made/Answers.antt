-- The rules to leave by hold what the receiver's own do.
use Rattle.std.proofs.Common.{◌≡◌, ◌++◌, List, OnOk, sym, ap, ◌∙◌, subst}
use Rattle.cells.specs.Firsts.{first_place}
use Rattle.classifier.specs.Items.{AreNew, Item, add_all}
use Rattle.classifier.specs.Meaning.{cubes_of}
use Rattle.block_build.proofs.ByCellLemmas.{held-everything}
use Rattle.block_build.proofs.ReceiveLemmas.{all-new}
use Rattle.block_build.proofs.ShapeBlocks.{cubes-received}
use Rattle.block_build.specs.ByCells.{held_by}
use Rattle.block_build.specs.Groups.{lines_within}
use Rattle.block_build.specs.Kept.{kept_lines}
use Rattle.block_build.specs.Receivers.{received_lines}
use Rattle.block_build.specs.declared.kept.Kept.{Kept}
use Rattle.block_build.specs.declared.receive.Receiver.{Receiver}
use Rattle.block_build.proofs.exits.Exits.push_made.Goals as goal

pub push_many-requires-clause-place : goal.push_many-requires-clause-place
push_many-requires-clause-place c =
    let rows = c.in-Many.rows in
    c.requires.place
    ∙ ap (first_place c.args.cell.now) (sym (ap (λ (r : Receiver). cubes_of r.lines) c.self.view_is)
    ∙ ap (λ (kept : Kept). cubes_of (kept_lines kept)) c.in-Many.is
    ∙ cubes-received rows.hop (lines_within rows.groups.items) ∙ ap cubes_of rows.same)

pub push_many-requires-clause-new : goal.push_many-requires-clause-new
push_many-requires-clause-new c =
    let rows = c.in-Many.rows in
    subst (λ ys. AreNew c.args.row.now.items (held_by c.args.cell.now (received_lines rows.hop ys))) rows.same
    (subst (λ (kept : Kept). AreNew c.args.row.now.items (held_by c.args.cell.now (kept_lines kept))) c.in-Many.is
    (subst (λ (r : Receiver). AreNew c.args.row.now.items (held_by c.args.cell.now r.lines)) (sym c.self.view_is) c.requires.new))

pub returns-in-Many : goal.returns-in-Many
returns-in-Many c =
    let rows = c.in-Many.rows in
    subst (λ (r : Receiver). OnOk c.push_many.result (c.push_many.new.row.items ≡ add_all c.args.row.now.items (held_by c.args.cell.now r.lines))) c.self.view_is
    (subst (λ (kept : Kept). OnOk c.push_many.result (c.push_many.new.row.items ≡ add_all c.args.row.now.items (held_by c.args.cell.now (kept_lines kept)))) (sym c.in-Many.is)
    (subst (λ ys. OnOk c.push_many.result (c.push_many.new.row.items ≡ add_all c.args.row.now.items (held_by c.args.cell.now (received_lines rows.hop ys)))) (sym rows.same) c.push_many.ensures))

pub returns-in_ok-extend_from_slice-in-Alone : goal.returns-in_ok-extend_from_slice-in-Alone
returns-in_ok-extend_from_slice-in-Alone c =
    let row = c.args.row.now.items in
    let results = c.in-Alone.results in
    let held : results ≡ held_by c.args.cell.now c.args.self.now.lines =
    sym (held-everything c.args.cell.now results)
    ∙ sym (ap (λ (kept : Kept). held_by c.args.cell.now (kept_lines kept)) c.in-Alone.is)
    ∙ ap (λ (r : Receiver). held_by c.args.cell.now r.lines) c.self.view_is in
    let new : AreNew row results = subst (AreNew row) (sym held) c.requires.new in
    c.in_ok-extend_from_slice-in-Alone.ensures.items
    ∙ ap (λ (items : List Item). row ++ items) c.items.ensures
    ∙ sym (all-new row results c.known.ensures new)
    ∙ ap (add_all row) held
