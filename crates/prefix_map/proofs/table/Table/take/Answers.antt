use Rattle.std.proofs.Common.{◌≡◌, refl, true, false, get_or, sym, subst, ◌∙◌}
use Rattle.std.proofs.lemmas.List.{length-set}
use Rattle.prefix_map.specs.Entries.{entries_of}
use Rattle.prefix_map.specs.Tables.{number_of, all_entries}
use Rattle.prefix_map.specs.Tries.{AllKeys}
use Rattle.prefix_map.proofs.ListLemmas.{all_without}
use Rattle.prefix_map.proofs.TableLemmas.{part, told_at, without_at}
use Rattle.prefix_map.proofs.table.Table.take.Goals as goal

pub take_from-requires : goal.take_from-requires
take_from-requires g c = record { halves = (part c.args.self.now c.requires c.number_of.result (number_of c.args.key.address) c.index_mut.result.now c.number_of.ensures.number c.number_of.ensures.within c.index_mut.ensures.value).halves }

pub returns-clause-value : goal.returns-clause-value
returns-clause-value g c =
    let here = part c.args.self.now c.requires c.number_of.result (number_of c.args.key.address) c.index_mut.result.now c.number_of.ensures.number c.number_of.ensures.within c.index_mut.ensures.value in
    c.take_from.ensures.value ∙ sym (told_at 0 c.number_of.result (number_of c.args.key.address) c.args.self.now.parts.items c.index_mut.result.now here c.args.key refl).find_is

pub returns-clause-entries : goal.returns-clause-entries
returns-clause-entries g c =
    let here = part c.args.self.now c.requires c.number_of.result (number_of c.args.key.address) c.index_mut.result.now c.number_of.ensures.number c.number_of.ensures.within c.index_mut.ensures.value in
    without_at 0 c.number_of.result (number_of c.args.key.address) c.args.self.now.parts.items c.index_mut.result.now here c.args.key refl c.take_from.new.trie c.take_from.ensures.entries

pub returns-clause-table : goal.returns-clause-table
returns-clause-table g c =
    let here = part c.args.self.now c.requires c.number_of.result (number_of c.args.key.address) c.index_mut.result.now c.number_of.ensures.number c.number_of.ensures.within c.index_mut.ensures.value in
    let entries = without_at 0 c.number_of.result (number_of c.args.key.address) c.args.self.now.parts.items c.index_mut.result.now here c.args.key refl c.take_from.new.trie c.take_from.ensures.entries in
    let own : AllKeys (λ p. number_of p.address ≡ number_of c.args.key.address) (entries_of c.take_from.new.trie) = subst (AllKeys (λ p. number_of p.address ≡ number_of c.args.key.address)) (sym c.take_from.ensures.entries) (all_without (λ p. number_of p.address ≡ number_of c.args.key.address) c.args.key (entries_of c.index_mut.result.now) here.own) in
    record {
      numbered = here.set_numbered c.take_from.new.trie c.take_from.ensures.halves own;
      whole = length-set c.args.self.now.parts.items c.number_of.result c.take_from.new.trie ∙ c.requires.whole;
      lengths = c.requires.lengths;
      marked = subst (AllKeys (λ p. get_or c.args.self.now.lengths p.len false ≡ true)) (sym entries) (all_without (λ p. get_or c.args.self.now.lengths p.len false ≡ true) c.args.key (all_entries c.args.self.now.parts.items) c.requires.marked);
    }
