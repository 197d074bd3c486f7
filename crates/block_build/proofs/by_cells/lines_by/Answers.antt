-- The rules of the cells are built.
use Rattle.std.proofs.Common.{List, [], sym, ap, ◌∙◌, subst}
use Rattle.classifier.specs.Lines.{add_lines}
use Rattle.classifier.specs.declared.line.Line.{Line}
use Rattle.net_types.specs.declared.cube.Cube.{Cube}
use Rattle.block_build.proofs.ByCellLemmas.{cells-built, ok-map}
use Rattle.block_build.specs.Bounds.{IsBuilt}
use Rattle.block_build.specs.ByCells.{beside_all, dropping}
use Rattle.block_build.specs.Tables.{AreTables}
use Rattle.block_build.proofs.by_cells.lines_by.Goals as goal

pub beside_all-requires : goal.beside_all-requires
beside_all-requires c = subst (λ (cells : List Cube). AreTables cells c.args.workshop.now.tables.all.items) (sym (c.new-inside.ensures ∙ c.cubes.ensures.value)) c.args.workshop.now.are

pub returns : goal.returns
returns c =
    let s = c.args.sending.now in
    let cells = c.args.workshop.now.cells in
    let built = cells-built c.args.limit s.best s.offers.now c.args.receivers.now s.rules.now cells c.requires in
    ok-map c.reached_of.result _ _ (λ v same.
    subst (λ (lines : List Line). IsBuilt c.args.limit s.best s.offers.now c.args.receivers.now s.rules.now lines)
    (sym (same ∙ ap (λ (zs : List Line). add_lines [] zs) (c.in_ok-lines.ensures.lines ∙ ap (λ (cs : List Cube). beside_all s.best s.offers.now s.rules.now (dropping cs) c.args.receivers.now) (c.new-inside.ensures ∙ c.cubes.ensures.value)))) built) c.reached_of.ensures
