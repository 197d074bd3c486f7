use Rattle.std.proofs.Common.{refl, sym, ◌∙◌}
use Rattle.prefix_map.specs.Tables.{number_of}
use Rattle.prefix_map.proofs.TableLemmas.{part, told_at}
use Rattle.prefix_map.proofs.table.Table.value.Goals as goal

pub value_of-requires : goal.value_of-requires
value_of-requires g c = record { halves = (part c.args.self.now c.requires c.number_of.result (number_of c.args.key.address) c.index.result.now c.number_of.ensures.number c.number_of.ensures.within c.index.ensures).halves }

pub returns : goal.returns
returns g c =
    let here = part c.args.self.now c.requires c.number_of.result (number_of c.args.key.address) c.index.result.now c.number_of.ensures.number c.number_of.ensures.within c.index.ensures in
    c.value_of.ensures ∙ sym (told_at 0 c.number_of.result (number_of c.args.key.address) c.args.self.now.parts.items c.index.result.now here c.args.key refl).find_is
