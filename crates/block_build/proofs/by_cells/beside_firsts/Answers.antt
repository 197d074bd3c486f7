-- The table is that of the next receiver's cubes; what the cells give at the end are their rules.
use Rattle.std.proofs.Common.{◌≡◌, List, ap, length, refl, subst, sym, ◌∙◌}
use Rattle.std.proofs.lemmas.Option.{same_Some, slice_get_read}
use Rattle.cells.specs.Firsts.{firsts}
use Rattle.classifier.specs.Meaning.{cubes_of}
use Rattle.net_types.specs.declared.cube.Cube.{Cube}
use Rattle.block_build.proofs.FewLemmas.{cubes-first}
use Rattle.block_build.proofs.TableLemmas.{table-places}
use Rattle.block_build.specs.ByCells.{beside_first}
use Rattle.block_build.specs.Tables.{AreTables}
use Rattle.block_build.specs.declared.receive.Receiver.{Receiver}
use Rattle.block_build.proofs.by_cells.beside_firsts.Goals as goal

pub beside_next-requires-clause-places : goal.beside_next-requires-clause-places
beside_next-requires-clause-places c = λ r among.
    let cells = c.args.inside.now.cells.now in
    let rs = c.args.receivers.now in
    let n = c.loop-n.n in
    let at = c.index-receivers-n.result in
    let tables = c.table_of.new.tables.all.items in
    let are : AreTables cells tables = subst (λ (cs : List Cube). AreTables cs tables) c.loop-n.invariant.cells c.table_of.ensures.tables in
    let one : at ≡ r = same_Some at r (sym (slice_get_read rs (length rs) n at refl c.loop-n-test.true c.index-receivers-n.is) ∙ among) in
    c.deref.ensures.value
    ∙ ap (λ v. v.items) c.as_ref-places.ensures
    ∙ table-places cells (cubes_of at.lines) tables c.in_ok-number.number c.index.result.now are c.in_ok-number.ensures.number c.index.ensures
    ∙ ap (λ (q : Receiver). firsts (cubes_of q.lines) cells) one

pub returns-clause-lines : goal.returns-clause-lines
returns-clause-lines c =
    let s = c.args.sending.now in
    let cells = c.args.inside.now.cells.now in
    let rs = c.args.receivers.now in
    c.in_ok-lines.ensures (beside_first s.best s.offers.now s.rules.now cells rs c.loop-n.n) (cubes-first s.best s.offers.now s.rules.now cells rs c.loop-n.n) c.loop-n.invariant.numbered
