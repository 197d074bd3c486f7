use Rattle.std.proofs.Common.{◌≤◌, sym, ap, subst, ◌∙◌, arith}
use Rattle.std.specs.Option.{option_map}
use Rattle.prefix_map.specs.Entries.{seen_entry}
use Rattle.prefix_map.specs.Tables.{number_of}
use Rattle.prefix_map.proofs.CoverLemmas.{past_len, longest_at, short_else}
use Rattle.prefix_map.proofs.TableLemmas.{part}
use Rattle.prefix_map.proofs.table.Table.longest.Goals.{in_default-via-in-Some+else-at-ge-FIRST_BITS, in_default-via-in_default}
use Rattle.prefix_map.proofs.table.Table.longest.Goals as goal

pub longest_in-requires : goal.longest_in-requires
longest_in-requires g c = record { halves = (part c.args.self.now c.requires c.number_of.result (number_of c.args.ip) c.index.result.now c.number_of.ensures.number c.number_of.ensures.within c.index.ensures).halves }

pub longest_short-requires : goal.longest_short-requires
longest_short-requires g c =
    let here = part c.args.self.now c.requires c.number_of.result (number_of c.args.ip) c.index.result.now c.number_of.ensures.number c.number_of.ensures.within c.index.ensures in
    record {
      table = c.requires;
      short = short_else c.number_of.result c.args.self.now.parts.items c.index.result.now c.args.ip (omega arith) here (option_map seen_entry c.longest_in.result) (sym c.longest_in.ensures) (elim c.in_default.branch [
        | in_default-via-in-Some+else-at-ge-FIRST_BITS w ↦ subst (λ r. past_len (option_map seen_entry r) ≤ 16) (sym w.in-Some.is) (let less = w.if-at-ge-FIRST_BITS.false in omega (arith, less))
        | in_default-via-in_default w ↦ subst (λ r. past_len (option_map seen_entry r) ≤ 16) (sym w.in_default.is) (omega arith)
      ]);
    }

pub returns-in-Some : goal.returns-in-Some
returns-in-Some g c =
    let here = part c.args.self.now c.requires c.number_of.result (number_of c.args.ip) c.index.result.now c.number_of.ensures.number c.number_of.ensures.within c.index.ensures in
    sym (longest_at c.number_of.result c.args.self.now.parts.items c.index.result.now c.args.ip (omega arith) here (seen_entry (c.in-Some.at, c.in-Some.value)) (sym c.longest_in.ensures ∙ ap (option_map seen_entry) c.in-Some.is) c.if-at-ge-FIRST_BITS.true)
