use Rattle.std.proofs.Common.{◌≡◌, ◌++◌, append_assoc, sym, ap, ◌∙◌}
use Rattle.prefix_map.specs.Entries.{entries_of, node_entries, own}
use Rattle.prefix_map.specs.Tables.{all_entries, puts}
use Rattle.prefix_map.proofs.TableLemmas.{puts_append}
use Rattle.prefix_map.proofs.table.+spread.Goals.{in-Some+in-Some-1, in-Some+in-None-1, in_default}
use Rattle.prefix_map.proofs.table.+spread.Goals as goal

pub returns-after-held-clause-entries : goal.returns-after-held-clause-entries
returns-after-held-clause-entries g t c =
    let node = c.into_inner-low.result in
    let es = all_entries c.args.table.now.parts.items in
    let is : entries_of c.args.trie ≡ node_entries node = ap entries_of c.in-Fork.is ∙ ap node_entries (sym c.into_inner-low.ensures) in
    let first : all_entries c.match-held.table.parts.items ≡ puts (own node.at node.held) es = elim c.match-held.branch [
      | in-Some+in-Some-1 w ↦ ap (λ table. all_entries table.parts.items) w.table-is ∙ w.put-in-Some.ensures.entries ∙ ap (λ held. puts (own node.at held) es) (sym w.in-Some.is)
      | in-Some+in-None-1 w ↦ ap (λ table. all_entries table.parts.items) w.table-is ∙ w.put-in-Some.ensures.entries ∙ ap (λ held. puts (own node.at held) es) (sym w.in-Some.is)
      | in_default w ↦ ap (λ table. all_entries table.parts.items) w.table-is ∙ ap (λ held. puts (own node.at held) es) (sym w.in_default.is)
    ] in
    c.spread-in-Fork.ensures.entries
    ∙ ap (puts (entries_of node.high)) (c.spread.ensures.entries ∙ ap (puts (entries_of node.low)) first ∙ sym (puts_append (own node.at node.held) (entries_of node.low) es))
    ∙ sym (puts_append (own node.at node.held ++ entries_of node.low) (entries_of node.high) es)
    ∙ ap (λ ds. puts ds es) (append_assoc (own node.at node.held) (entries_of node.low) (entries_of node.high) ∙ sym is)
