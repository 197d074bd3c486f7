-- The places are those of the receiver's table.
use Rattle.std.proofs.Common.{◌<◌, ap, arith, length, ◌∙◌}
use Rattle.classifier.specs.Meaning.{cubes_of}
use Rattle.block_build.proofs.TableLemmas.{table-places, table-within}
use Rattle.block_build.proofs.known.known_of.Goals as goal

pub index-requires : goal.index-requires
index-requires c =
    let tables = c.table_of.new.tables.all in
    let within : c.in_ok-number.number < length tables.items = table-within tables.items (cubes_of c.args.receiver.now.lines) c.in_ok-number.number c.in_ok-number.ensures.number in
    omega (arith, within, tables.ok.0)

pub returns-clause-known : goal.returns-clause-known
returns-clause-known c = record {
  places =
      ap (λ v. v.items) c.in_ok-places.ensures.cases
      ∙ table-places c.args.inside.now.cells.now (cubes_of c.args.receiver.now.lines) c.table_of.new.tables.all.items c.in_ok-number.number c.index.result.now c.table_of.ensures.tables c.in_ok-number.ensures.number c.index.ensures;
  free = c.is_apart-apart.ensures;
  taken = c.in_ok-take_ports.ensures.taken;
  kept = c.in_ok-take_ports.ensures.kept;
}
