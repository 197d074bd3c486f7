use Rattle.std.proofs.Common.{◌+◌, ◌-◌, suc, drop, length, length-drop, add-one, arith, refl, sym, ap, ◌∙◌}
use Rattle.std.proofs.lemmas.List.{take_all}
use Rattle.std.specs.Option.{option_map}
use Rattle.net_types.specs.Routes.{first_of_list}
use Rattle.prefix_map.specs.Entries.{entries_of, above, seen_entry}
use Rattle.prefix_map.specs.Tables.{number_of, all_entries}
use Rattle.prefix_map.proofs.NodeLemmas.{none_first, some_first}
use Rattle.prefix_map.proofs.TableLemmas.{part, above_at}
use Rattle.prefix_map.proofs.table.Table.next_after.Goals as goal

pub next_after-requires : goal.next_after-requires
next_after-requires g c = record { halves = (part c.args.self.now c.requires c.number_of-number.result (number_of c.args.key.address) c.index.result.now c.number_of-number.ensures.number c.number_of-number.ensures.within c.index.ensures).halves }

pub returns-in-Some : goal.returns-in-Some
returns-in-Some g c =
    let here = part c.args.self.now c.requires c.number_of-number.result (number_of c.args.key.address) c.index.result.now c.number_of-number.ensures.number c.number_of-number.ensures.within c.index.ensures in
    sym (ap first_of_list (above_at 0 c.number_of-number.result (number_of c.args.key.address) c.args.self.now.parts.items c.index.result.now here c.args.key refl)
    ∙ some_first (above c.args.key (entries_of c.index.result.now)) _ (seen_entry c.in-Some.entry) (sym c.next_after.ensures ∙ ap (option_map seen_entry) c.in-Some.is))

pub returns-in-None : goal.returns-in-None
returns-in-None g c =
    let here = part c.args.self.now c.requires c.number_of-number.result (number_of c.args.key.address) c.index.result.now c.number_of-number.ensures.number c.number_of-number.ensures.within c.index.ensures in
    let rest = all_entries (drop (suc c.number_of-number.result) c.args.self.now.parts.items) in
    let ts = c.deref.result.now in
    let k = c.number_of-number.result in
    let size = length-drop (k + 1) ts in
    c.first_of.ensures
    ∙ ap (λ us. first_of_list (all_entries us)) (take_all (length ts - (k + 1)) (drop (k + 1) ts) (omega (arith, size)) ∙ ap (λ n. drop n ts) (add-one k))
    ∙ ap (λ us. first_of_list (all_entries (drop (suc k) us))) c.deref.ensures.value
    ∙ sym (ap first_of_list (above_at 0 c.number_of-number.result (number_of c.args.key.address) c.args.self.now.parts.items c.index.result.now here c.args.key refl)
    ∙ none_first (above c.args.key (entries_of c.index.result.now)) rest (sym c.next_after.ensures ∙ ap (option_map seen_entry) c.in-None.is))
