use Rattle.std.proofs.Common.{sym, ap, subst, ◌∙◌}
use Rattle.prefix_map.specs.Entries.{entries_of}
use Rattle.prefix_map.specs.Parts.{entries_in, AreParts}
use Rattle.prefix_map.specs.Tables.{all_entries, puts}
use Rattle.prefix_map.proofs.SortLemmas.{trie_sorted}
use Rattle.prefix_map.proofs.TableLemmas.{puts_rising}
use Rattle.prefix_map.proofs.parts.Parts.divide.Goals as goal

pub returns-in_ok-fill-clause-entries : goal.returns-in_ok-fill-clause-entries
returns-in_ok-fill-clause-entries g c =
    let trie = c.in-One.trie in
    c.spread.ensures.entries
    ∙ ap (λ t. puts (entries_of t) (all_entries c.in_ok-table.table.parts.items)) c.replace.ensures.value
    ∙ ap (puts (entries_of trie)) c.in_ok-table.ensures.empty
    ∙ puts_rising (entries_of trie) (trie_sorted trie (subst (λ p. AreParts p) c.in-One.is c.requires.parts))
    ∙ ap entries_in (sym c.in-One.is)
