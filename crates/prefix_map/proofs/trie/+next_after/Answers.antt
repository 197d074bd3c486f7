use Rattle.std.proofs.Common.{◌≡◌, true, false, sym, ap, subst, ◌∙◌}
use Rattle.std.specs.Ordering.{is_lt}
use Rattle.std.proofs.lemmas.Bool.{ltb-false}
use Rattle.net_types.specs.Keys.{prefix_cmp}
use Rattle.net_types.specs.Routes.{first_of_list}
use Rattle.net_types.proofs.TieLemmas.{less}
use Rattle.prefix_map.specs.Entries.{entries_of, node_entries, above}
use Rattle.prefix_map.specs.Tries.{IsTrie, IsNode}
use Rattle.prefix_map.proofs.NodeLemmas.{above_before_all, above_high}
use Rattle.prefix_map.proofs.trie.+next_after.Goals as goal

pub returns-then-is_lt-2 : goal.returns-then-is_lt-2
returns-then-is_lt-2 g t c =
    let node = c.deref-node.result.now in
    let is : entries_of c.args.trie.now ≡ node_entries node = ap entries_of c.in-Fork.is ∙ ap node_entries (sym c.deref-node.ensures) in
    let kept : IsNode node = subst (λ n. IsNode n) (sym c.deref-node.ensures) (subst (λ t. IsTrie t) c.in-Fork.is c.requires.halves) in
    let before : is_lt (prefix_cmp c.args.key node.at) ≡ true = sym (c.is_lt-in-Fork.ensures ∙ ap is_lt c.cmp-in-Fork.ensures) ∙ c.if-is_lt-2.true in
    c.first.ensures ∙ ap first_of_list (is ∙ sym (above_before_all node.at node.held (entries_of node.low) (entries_of node.high) kept.0 kept.1 c.args.key (less _ before)) ∙ ap (above c.args.key) (sym is))

pub returns-then-not-is_below : goal.returns-then-not-is_below
returns-then-not-is_below g t c =
    let node = c.deref-node.result.now in
    let is : entries_of c.args.trie.now ≡ node_entries node = ap entries_of c.in-Fork.is ∙ ap node_entries (sym c.deref-node.ensures) in
    let kept : IsNode node = subst (λ n. IsNode n) (sym c.deref-node.ensures) (subst (λ t. IsTrie t) c.in-Fork.is c.requires.halves) in
    let after : is_lt (prefix_cmp c.args.key node.at) ≡ false = sym (c.is_lt-in-Fork.ensures ∙ ap is_lt c.cmp-in-Fork.ensures) ∙ c.if-is_lt-2.false in
    let more = ltb-false _ _ (sym c.is_below.ensures ∙ c.if-not-is_below.true) in
    c.next_after.ensures ∙ ap first_of_list (sym (above_high node.at node.held (entries_of node.low) (entries_of node.high) kept.0 kept.1 c.args.key after more) ∙ ap (above c.args.key) (sym is))
