use Rattle.std.proofs.Common.{◌≡◌, refl, true, false, get_or, sym, subst, ◌∙◌, arith}
use Rattle.std.specs.Prelude.{slice_set}
use Rattle.std.proofs.lemmas.List.{length-set}
use Rattle.prefix_map.specs.Entries.{entries_of}
use Rattle.prefix_map.specs.Tables.{number_of, all_entries}
use Rattle.prefix_map.specs.Tries.{AllKeys}
use Rattle.prefix_map.proofs.ListLemmas.{all_put}
use Rattle.prefix_map.proofs.TableLemmas.{part, told_at, put_at, all_marked}
use Rattle.prefix_map.proofs.table.Table.put.Goals as goal

pub put_in-requires-clause-halves : goal.put_in-requires-clause-halves
put_in-requires-clause-halves g c =
    let here = part c.args.self.now c.requires.table c.number_of.result (number_of c.args.key.address) c.index_mut.result.now c.number_of.ensures.number c.number_of.ensures.within c.index_mut.ensures.value in
    here.halves

pub put_in-requires-clause-room : goal.put_in-requires-clause-room
put_in-requires-clause-room g c = λ none.
    let here = part c.args.self.now c.requires.table c.number_of.result (number_of c.args.key.address) c.index_mut.result.now c.number_of.ensures.number c.number_of.ensures.within c.index_mut.ensures.value in
    c.requires.room ((told_at 0 c.number_of.result (number_of c.args.key.address) c.args.self.now.parts.items c.index_mut.result.now here c.args.key refl).find_is ∙ none)

pub returns-clause-value : goal.returns-clause-value
returns-clause-value g c =
    let here = part c.args.self.now c.requires.table c.number_of.result (number_of c.args.key.address) c.index_mut.result.now c.number_of.ensures.number c.number_of.ensures.within c.index_mut.ensures.value in
    c.put_in.ensures.value ∙ sym (told_at 0 c.number_of.result (number_of c.args.key.address) c.args.self.now.parts.items c.index_mut.result.now here c.args.key refl).find_is

pub returns-clause-entries : goal.returns-clause-entries
returns-clause-entries g c =
    let here = part c.args.self.now c.requires.table c.number_of.result (number_of c.args.key.address) c.index_mut.result.now c.number_of.ensures.number c.number_of.ensures.within c.index_mut.ensures.value in
    put_at 0 c.number_of.result (number_of c.args.key.address) c.args.self.now.parts.items c.index_mut.result.now here c.args.key refl c.args.value c.put_in.new.trie c.put_in.ensures.entries

pub returns-clause-table : goal.returns-clause-table
returns-clause-table g c =
    let here = part c.args.self.now c.requires.table c.number_of.result (number_of c.args.key.address) c.index_mut.result.now c.number_of.ensures.number c.number_of.ensures.within c.index_mut.ensures.value in
    let entries = put_at 0 c.number_of.result (number_of c.args.key.address) c.args.self.now.parts.items c.index_mut.result.now here c.args.key refl c.args.value c.put_in.new.trie c.put_in.ensures.entries in
    let own : AllKeys (λ p. number_of p.address ≡ number_of c.args.key.address) (entries_of c.put_in.new.trie) = subst (AllKeys (λ p. number_of p.address ≡ number_of c.args.key.address)) (sym c.put_in.ensures.entries) (all_put (λ p. number_of p.address ≡ number_of c.args.key.address) c.args.key c.args.value (entries_of c.index_mut.result.now) refl here.own) in
    let within = c.args.key.short in
    let size = c.requires.table.lengths in
    record {
      numbered = here.set_numbered c.put_in.new.trie c.put_in.ensures.halves own;
      whole = length-set c.args.self.now.parts.items c.number_of.result c.put_in.new.trie ∙ c.requires.table.whole;
      lengths = length-set c.args.self.now.lengths c.args.key.len true ∙ size;
      marked = subst (AllKeys (λ p. get_or (slice_set c.args.self.now.lengths c.args.key.len true) p.len false ≡ true)) (sym entries) (all_marked c.args.self.now.lengths c.args.key c.args.value (all_entries c.args.self.now.parts.items) (omega (arith, within, size)) c.requires.table.marked);
    }
