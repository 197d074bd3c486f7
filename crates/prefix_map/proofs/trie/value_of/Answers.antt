use Rattle.std.proofs.Common.{◌≡◌, sym, ap, subst, ◌∙◌, arith}
use Rattle.std.proofs.lemmas.Bool.{ltb-true, ltb-false, eqb-true, and_parts}
use Rattle.net_types.proofs.PrefixLemmas.{prefix_ext}
use Rattle.std.specs.FinMap.Entries.{find}
use Rattle.net_types.specs.Keys.{prefix_cmp}
use Rattle.prefix_map.specs.Entries.{entries_of, node_entries}
use Rattle.prefix_map.specs.Tries.{IsTrie, IsNode}
use Rattle.prefix_map.proofs.FindLemmas.{find_low, find_high, find_other}
use Rattle.prefix_map.proofs.ForkLemmas.{fork_here}
use Rattle.prefix_map.proofs.trie.value_of.Goals as goal

pub returns-then-eq-2 : goal.returns-then-eq-2
returns-then-eq-2 g c =
    let node = c.deref-node.result.now in
    let is : entries_of c.loop-here.here.now ≡ node_entries node = ap entries_of c.in-Fork.is ∙ ap node_entries (sym c.deref-node.ensures) in
    let kept : IsNode node = subst (λ n. IsNode n) (sym c.deref-node.ensures) (subst (λ t. IsTrie t) c.in-Fork.is c.loop-here.invariant.0) in
    let both = sym c.eq-then-key-node.ensures ∙ c.if-eq-2.true in
    let same : node.at ≡ c.args.key = prefix_ext node.at c.args.key (eqb-true _ _ (and_parts _ _ both).0) (eqb-true _ _ (and_parts _ _ both).1) in
    let told = fork_here c.loop-here.here.now node is kept c.args.key same in
    c.as_ref.ensures.value ∙ sym (c.loop-here.invariant.1 ∙ told.find_is)

pub returns-else-eq-2 : goal.returns-else-eq-2
returns-else-eq-2 g c =
    let node = c.deref-node.result.now in
    let is : entries_of c.loop-here.here.now ≡ node_entries node = ap entries_of c.in-Fork.is ∙ ap node_entries (sym c.deref-node.ensures) in
    let kept : IsNode node = subst (λ n. IsNode n) (sym c.deref-node.ensures) (subst (λ t. IsTrie t) c.in-Fork.is c.loop-here.invariant.0) in
    let found = find_other node.at node.held (entries_of node.low) (entries_of node.high) kept.0 kept.1 c.args.key c.if-key-node.true (sym c.eq-then-key-node.ensures ∙ c.if-eq-2.false) in
    sym (c.loop-here.invariant.1 ∙ ap (find prefix_cmp c.args.key) is ∙ found)

pub loop-here-preserved-then-is_below : goal.loop-here-preserved-then-is_below
loop-here-preserved-then-is_below g c =
    let node = c.deref-node.result.now in
    let is : entries_of c.loop-here.here.now ≡ node_entries node = ap entries_of c.in-Fork.is ∙ ap node_entries (sym c.deref-node.ensures) in
    let kept : IsNode node = subst (λ n. IsNode n) (sym c.deref-node.ensures) (subst (λ t. IsTrie t) c.in-Fork.is c.loop-here.invariant.0) in
    let longer = c.if-key-node.false in
    let found = find_low node.at node.held (entries_of node.low) (entries_of node.high) kept.0 kept.1 c.args.key (omega (arith, longer)) (ltb-true _ _ (sym c.is_below.ensures ∙ c.if-is_below.true)) in
    (kept.2, c.loop-here.invariant.1 ∙ ap (find prefix_cmp c.args.key) is ∙ found)

pub loop-here-preserved : goal.loop-here-preserved
loop-here-preserved g c =
    let node = c.deref-node.result.now in
    let is : entries_of c.loop-here.here.now ≡ node_entries node = ap entries_of c.in-Fork.is ∙ ap node_entries (sym c.deref-node.ensures) in
    let kept : IsNode node = subst (λ n. IsNode n) (sym c.deref-node.ensures) (subst (λ t. IsTrie t) c.in-Fork.is c.loop-here.invariant.0) in
    let longer = c.if-key-node.false in
    let found = find_high node.at node.held (entries_of node.low) (entries_of node.high) kept.0 kept.1 c.args.key (omega (arith, longer)) (ltb-false _ _ (sym c.is_below.ensures ∙ c.if-is_below.false)) in
    (kept.3, c.loop-here.invariant.1 ∙ ap (find prefix_cmp c.args.key) is ∙ found)
