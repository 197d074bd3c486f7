use Rattle.std.proofs.Common.{◌≡◌, ◌<◌, ◌+◌, ◌++◌, None, sym, ap, subst, ◌∙◌, rules, arith, ℕ, ◌≤◌}
use Rattle.std.specs.Vec.{vec_len}
use Rattle.std.specs.FinMap.Entries.{find}
use Rattle.net_types.specs.Keys.{prefix_cmp}
use Rattle.prefix_map.specs.Entries.{entries_of, node_entries, own}
use Rattle.prefix_map.specs.Halves.{LiesLow, LiesHigh}
use Rattle.prefix_map.specs.Tries.{IsTrie, IsNode, AllKeys}
use Rattle.prefix_map.specs.declared.trie.Node.{Node}
use Rattle.prefix_map.proofs.Sizes.{size_of}
use Rattle.prefix_map.proofs.ListLemmas.{all_of, all_put}
use Rattle.prefix_map.proofs.StandLemmas.{in_low, in_high}
use Rattle.prefix_map.proofs.NodeLemmas.{all_in, told_over_low, told_over_high}
use Rattle.prefix_map.proofs.ForkLemmas.{fork_here, fork_low, fork_high, fork_over_low, fork_over_high, fork_before, fork_after}
use Rattle.prefix_map.proofs.change.+put_in.Goals as goal

at_most : (a b : ℕ) → a ≡ b → a ≤ b
at_most a b is = omega (arith, is)

at_least : (n k : ℕ) → n ≤ n + k
at_least n k = omega arith

pub put_in-requires : goal.put_in-requires
put_in-requires g t c κs within =
    let node = c.deref_mut-node.result.now in
    let is : entries_of c.args.trie.now ≡ node_entries node = ap entries_of c.in-Fork.is ∙ ap node_entries (sym c.deref_mut-node.ensures.value) in
    let kept : IsNode node = subst (λ n. IsNode n) (sym c.deref_mut-node.ensures.value) (subst (λ t. IsTrie t) c.in-Fork.is c.requires.halves) in
    let told = fork_low c.args.trie.now node is kept c.args.key c.in-Low.ensures in
    let size : size_of c.args.trie.now ≡ size_of node.low + size_of node.high + 1 = ap size_of c.in-Fork.is ∙ ap (λ (n : Node _). size_of n.low + size_of n.high + 1) (sym c.deref_mut-node.ensures.value) in
    let shorter : size_of node.low < size_of c.args.trie.now = omega (arith, size) in
    let child : IsTrie node.low = kept.2 in
    let room : find prefix_cmp c.args.key (entries_of node.low) ≡ None → 0 < vec_len c.args.spare.now = λ none. c.requires.room (told.find_is ∙ none) in
    search rules

pub put_in-requires-in-High : goal.put_in-requires-in-High
put_in-requires-in-High g t c κs within =
    let node = c.deref_mut-node.result.now in
    let is : entries_of c.args.trie.now ≡ node_entries node = ap entries_of c.in-Fork.is ∙ ap node_entries (sym c.deref_mut-node.ensures.value) in
    let kept : IsNode node = subst (λ n. IsNode n) (sym c.deref_mut-node.ensures.value) (subst (λ t. IsTrie t) c.in-Fork.is c.requires.halves) in
    let told = fork_high c.args.trie.now node is kept c.args.key c.in-High.ensures in
    let size : size_of c.args.trie.now ≡ size_of node.low + size_of node.high + 1 = ap size_of c.in-Fork.is ∙ ap (λ (n : Node _). size_of n.low + size_of n.high + 1) (sym c.deref_mut-node.ensures.value) in
    let shorter : size_of node.high < size_of c.args.trie.now = omega (arith, size) in
    let child : IsTrie node.high = kept.3 in
    let room : find prefix_cmp c.args.key (entries_of node.high) ≡ None → 0 < vec_len c.args.spare.now = λ none. c.requires.room (told.find_is ∙ none) in
    search rules

pub put_over_low-requires-clause-lie : goal.put_over_low-requires-clause-lie
put_over_low-requires-clause-lie g t c =
    let node = c.deref_mut-node.result.now in
    let is : entries_of c.args.trie.now ≡ node_entries node = ap entries_of c.in-Fork.is ∙ ap node_entries (sym c.deref_mut-node.ensures.value) in
    let kept : IsNode node = subst (λ n. IsNode n) (sym c.deref_mut-node.ensures.value) (subst (λ t. IsTrie t) c.in-Fork.is c.requires.halves) in
    told_over_low node.at node.held (entries_of node.low) (entries_of node.high) kept.0 kept.1 c.args.key c.in-OverLow.ensures

pub put_over_low-requires-clause-room : goal.put_over_low-requires-clause-room
put_over_low-requires-clause-room g t c =
    let node = c.deref_mut-node.result.now in
    let is : entries_of c.args.trie.now ≡ node_entries node = ap entries_of c.in-Fork.is ∙ ap node_entries (sym c.deref_mut-node.ensures.value) in
    let kept : IsNode node = subst (λ n. IsNode n) (sym c.deref_mut-node.ensures.value) (subst (λ t. IsTrie t) c.in-Fork.is c.requires.halves) in
    let told = fork_over_low c.args.trie.now node is kept c.args.key c.in-OverLow.ensures in
    c.requires.room told.find_is

pub put_over_high-requires-clause-lie : goal.put_over_high-requires-clause-lie
put_over_high-requires-clause-lie g t c =
    let node = c.deref_mut-node.result.now in
    let is : entries_of c.args.trie.now ≡ node_entries node = ap entries_of c.in-Fork.is ∙ ap node_entries (sym c.deref_mut-node.ensures.value) in
    let kept : IsNode node = subst (λ n. IsNode n) (sym c.deref_mut-node.ensures.value) (subst (λ t. IsTrie t) c.in-Fork.is c.requires.halves) in
    told_over_high node.at node.held (entries_of node.low) (entries_of node.high) kept.0 kept.1 c.args.key c.in-OverHigh.ensures

pub put_over_high-requires-clause-room : goal.put_over_high-requires-clause-room
put_over_high-requires-clause-room g t c =
    let node = c.deref_mut-node.result.now in
    let is : entries_of c.args.trie.now ≡ node_entries node = ap entries_of c.in-Fork.is ∙ ap node_entries (sym c.deref_mut-node.ensures.value) in
    let kept : IsNode node = subst (λ n. IsNode n) (sym c.deref_mut-node.ensures.value) (subst (λ t. IsTrie t) c.in-Fork.is c.requires.halves) in
    let told = fork_over_high c.args.trie.now node is kept c.args.key c.in-OverHigh.ensures in
    c.requires.room told.find_is

pub put_before-requires-clause-halves : goal.put_before-requires-clause-halves
put_before-requires-clause-halves g t c =
    subst (λ n. IsNode n) (sym c.deref_mut-node.ensures.value) (subst (λ t. IsTrie t) c.in-Fork.is c.requires.halves)

pub put_before-requires-clause-lie : goal.put_before-requires-clause-lie
put_before-requires-clause-lie g t c =
    let node = c.deref_mut-node.result.now in
    let is : entries_of c.args.trie.now ≡ node_entries node = ap entries_of c.in-Fork.is ∙ ap node_entries (sym c.deref_mut-node.ensures.value) in
    let kept : IsNode node = subst (λ n. IsNode n) (sym c.deref_mut-node.ensures.value) (subst (λ t. IsTrie t) c.in-Fork.is c.requires.halves) in
    all_of (λ p there. in_high c.common-fork.result node.at p c.common-fork.ensures.high there) (node_entries node) (all_in node.at node.held (entries_of node.low) (entries_of node.high) kept.0 kept.1)

pub put_before-requires-clause-room : goal.put_before-requires-clause-room
put_before-requires-clause-room g t c =
    let node = c.deref_mut-node.result.now in
    let is : entries_of c.args.trie.now ≡ node_entries node = ap entries_of c.in-Fork.is ∙ ap node_entries (sym c.deref_mut-node.ensures.value) in
    let kept : IsNode node = subst (λ n. IsNode n) (sym c.deref_mut-node.ensures.value) (subst (λ t. IsTrie t) c.in-Fork.is c.requires.halves) in
    let told = fork_before c.args.trie.now node is kept c.args.key c.in-Before.ensures in
    c.requires.room told.find_is

pub put_after-requires-clause-halves : goal.put_after-requires-clause-halves
put_after-requires-clause-halves g t c =
    subst (λ n. IsNode n) (sym c.deref_mut-node.ensures.value) (subst (λ t. IsTrie t) c.in-Fork.is c.requires.halves)

pub put_after-requires-clause-lie : goal.put_after-requires-clause-lie
put_after-requires-clause-lie g t c =
    let node = c.deref_mut-node.result.now in
    let is : entries_of c.args.trie.now ≡ node_entries node = ap entries_of c.in-Fork.is ∙ ap node_entries (sym c.deref_mut-node.ensures.value) in
    let kept : IsNode node = subst (λ n. IsNode n) (sym c.deref_mut-node.ensures.value) (subst (λ t. IsTrie t) c.in-Fork.is c.requires.halves) in
    all_of (λ p there. in_low c.common-fork-in-After.result node.at p c.common-fork-in-After.ensures.low there) (node_entries node) (all_in node.at node.held (entries_of node.low) (entries_of node.high) kept.0 kept.1)

pub put_after-requires-clause-room : goal.put_after-requires-clause-room
put_after-requires-clause-room g t c =
    let node = c.deref_mut-node.result.now in
    let is : entries_of c.args.trie.now ≡ node_entries node = ap entries_of c.in-Fork.is ∙ ap node_entries (sym c.deref_mut-node.ensures.value) in
    let kept : IsNode node = subst (λ n. IsNode n) (sym c.deref_mut-node.ensures.value) (subst (λ t. IsTrie t) c.in-Fork.is c.requires.halves) in
    let told = fork_after c.args.trie.now node is kept c.args.key c.in-After.ensures in
    c.requires.room told.find_is

pub returns-in-Same-clause-value : goal.returns-in-Same-clause-value
returns-in-Same-clause-value g t c =
    let node = c.deref_mut-node.result.now in
    let is : entries_of c.args.trie.now ≡ node_entries node = ap entries_of c.in-Fork.is ∙ ap node_entries (sym c.deref_mut-node.ensures.value) in
    let kept : IsNode node = subst (λ n. IsNode n) (sym c.deref_mut-node.ensures.value) (subst (λ t. IsTrie t) c.in-Fork.is c.requires.halves) in
    let told = fork_here c.args.trie.now node is kept c.args.key c.in-Same.ensures in
    c.replace-in-Same.ensures.value ∙ sym told.find_is

pub returns-in-Same-clause-entries : goal.returns-in-Same-clause-entries
returns-in-Same-clause-entries g t c =
    let node = c.deref_mut-node.result.now in
    let is : entries_of c.args.trie.now ≡ node_entries node = ap entries_of c.in-Fork.is ∙ ap node_entries (sym c.deref_mut-node.ensures.value) in
    let kept : IsNode node = subst (λ n. IsNode n) (sym c.deref_mut-node.ensures.value) (subst (λ t. IsTrie t) c.in-Fork.is c.requires.halves) in
    let told = fork_here c.args.trie.now node is kept c.args.key c.in-Same.ensures in
    ap (λ o. own node.at o ++ (entries_of node.low ++ entries_of node.high)) c.replace-in-Same.ensures.after ∙ sym (told.put_is c.args.value)

pub returns-in-Low-clause-value : goal.returns-in-Low-clause-value
returns-in-Low-clause-value g t c =
    let node = c.deref_mut-node.result.now in
    let is : entries_of c.args.trie.now ≡ node_entries node = ap entries_of c.in-Fork.is ∙ ap node_entries (sym c.deref_mut-node.ensures.value) in
    let kept : IsNode node = subst (λ n. IsNode n) (sym c.deref_mut-node.ensures.value) (subst (λ t. IsTrie t) c.in-Fork.is c.requires.halves) in
    let told = fork_low c.args.trie.now node is kept c.args.key c.in-Low.ensures in
    c.put_in.ensures.value ∙ sym told.find_is

pub returns-in-Low-clause-entries : goal.returns-in-Low-clause-entries
returns-in-Low-clause-entries g t c =
    let node = c.deref_mut-node.result.now in
    let is : entries_of c.args.trie.now ≡ node_entries node = ap entries_of c.in-Fork.is ∙ ap node_entries (sym c.deref_mut-node.ensures.value) in
    let kept : IsNode node = subst (λ n. IsNode n) (sym c.deref_mut-node.ensures.value) (subst (λ t. IsTrie t) c.in-Fork.is c.requires.halves) in
    let told = fork_low c.args.trie.now node is kept c.args.key c.in-Low.ensures in
    ap (λ es. own node.at node.held ++ (es ++ entries_of node.high)) c.put_in.ensures.entries ∙ sym (told.put_is c.args.value)

pub returns-in-Low-clause-halves : goal.returns-in-Low-clause-halves
returns-in-Low-clause-halves g t c =
    let node = c.deref_mut-node.result.now in
    let is : entries_of c.args.trie.now ≡ node_entries node = ap entries_of c.in-Fork.is ∙ ap node_entries (sym c.deref_mut-node.ensures.value) in
    let kept : IsNode node = subst (λ n. IsNode n) (sym c.deref_mut-node.ensures.value) (subst (λ t. IsTrie t) c.in-Fork.is c.requires.halves) in
    (subst (λ es. AllKeys (LiesLow node.at) es) (sym c.put_in.ensures.entries) (all_put (LiesLow node.at) c.args.key c.args.value (entries_of node.low) c.in-Low.ensures kept.0), kept.1, c.put_in.ensures.halves, kept.3)

pub returns-in-High-clause-value : goal.returns-in-High-clause-value
returns-in-High-clause-value g t c =
    let node = c.deref_mut-node.result.now in
    let is : entries_of c.args.trie.now ≡ node_entries node = ap entries_of c.in-Fork.is ∙ ap node_entries (sym c.deref_mut-node.ensures.value) in
    let kept : IsNode node = subst (λ n. IsNode n) (sym c.deref_mut-node.ensures.value) (subst (λ t. IsTrie t) c.in-Fork.is c.requires.halves) in
    let told = fork_high c.args.trie.now node is kept c.args.key c.in-High.ensures in
    c.put_in-in-High.ensures.value ∙ sym told.find_is

pub returns-in-High-clause-entries : goal.returns-in-High-clause-entries
returns-in-High-clause-entries g t c =
    let node = c.deref_mut-node.result.now in
    let is : entries_of c.args.trie.now ≡ node_entries node = ap entries_of c.in-Fork.is ∙ ap node_entries (sym c.deref_mut-node.ensures.value) in
    let kept : IsNode node = subst (λ n. IsNode n) (sym c.deref_mut-node.ensures.value) (subst (λ t. IsTrie t) c.in-Fork.is c.requires.halves) in
    let told = fork_high c.args.trie.now node is kept c.args.key c.in-High.ensures in
    ap (λ es. own node.at node.held ++ (entries_of node.low ++ es)) c.put_in-in-High.ensures.entries ∙ sym (told.put_is c.args.value)

pub returns-in-High-clause-halves : goal.returns-in-High-clause-halves
returns-in-High-clause-halves g t c =
    let node = c.deref_mut-node.result.now in
    let is : entries_of c.args.trie.now ≡ node_entries node = ap entries_of c.in-Fork.is ∙ ap node_entries (sym c.deref_mut-node.ensures.value) in
    let kept : IsNode node = subst (λ n. IsNode n) (sym c.deref_mut-node.ensures.value) (subst (λ t. IsTrie t) c.in-Fork.is c.requires.halves) in
    (kept.0, subst (λ es. AllKeys (LiesHigh node.at) es) (sym c.put_in-in-High.ensures.entries) (all_put (LiesHigh node.at) c.args.key c.args.value (entries_of node.high) c.in-High.ensures kept.1), kept.2, c.put_in-in-High.ensures.halves)

pub returns-in-OverLow-clause-value : goal.returns-in-OverLow-clause-value
returns-in-OverLow-clause-value g t c =
    let node = c.deref_mut-node.result.now in
    let is : entries_of c.args.trie.now ≡ node_entries node = ap entries_of c.in-Fork.is ∙ ap node_entries (sym c.deref_mut-node.ensures.value) in
    let kept : IsNode node = subst (λ n. IsNode n) (sym c.deref_mut-node.ensures.value) (subst (λ t. IsTrie t) c.in-Fork.is c.requires.halves) in
    let told = fork_over_low c.args.trie.now node is kept c.args.key c.in-OverLow.ensures in
    sym told.find_is

pub returns-in-OverLow-clause-entries : goal.returns-in-OverLow-clause-entries
returns-in-OverLow-clause-entries g t c =
    let node = c.deref_mut-node.result.now in
    let is : entries_of c.args.trie.now ≡ node_entries node = ap entries_of c.in-Fork.is ∙ ap node_entries (sym c.deref_mut-node.ensures.value) in
    let kept : IsNode node = subst (λ n. IsNode n) (sym c.deref_mut-node.ensures.value) (subst (λ t. IsTrie t) c.in-Fork.is c.requires.halves) in
    let told = fork_over_low c.args.trie.now node is kept c.args.key c.in-OverLow.ensures in
    c.put_over_low.ensures.entries ∙ sym (told.put_is c.args.value)

pub returns-in-OverHigh-clause-value : goal.returns-in-OverHigh-clause-value
returns-in-OverHigh-clause-value g t c =
    let node = c.deref_mut-node.result.now in
    let is : entries_of c.args.trie.now ≡ node_entries node = ap entries_of c.in-Fork.is ∙ ap node_entries (sym c.deref_mut-node.ensures.value) in
    let kept : IsNode node = subst (λ n. IsNode n) (sym c.deref_mut-node.ensures.value) (subst (λ t. IsTrie t) c.in-Fork.is c.requires.halves) in
    let told = fork_over_high c.args.trie.now node is kept c.args.key c.in-OverHigh.ensures in
    sym told.find_is

pub returns-in-OverHigh-clause-entries : goal.returns-in-OverHigh-clause-entries
returns-in-OverHigh-clause-entries g t c =
    let node = c.deref_mut-node.result.now in
    let is : entries_of c.args.trie.now ≡ node_entries node = ap entries_of c.in-Fork.is ∙ ap node_entries (sym c.deref_mut-node.ensures.value) in
    let kept : IsNode node = subst (λ n. IsNode n) (sym c.deref_mut-node.ensures.value) (subst (λ t. IsTrie t) c.in-Fork.is c.requires.halves) in
    let told = fork_over_high c.args.trie.now node is kept c.args.key c.in-OverHigh.ensures in
    c.put_over_high.ensures.entries ∙ sym (told.put_is c.args.value)

pub returns-in-Before-clause-value : goal.returns-in-Before-clause-value
returns-in-Before-clause-value g t c =
    let node = c.deref_mut-node.result.now in
    let is : entries_of c.args.trie.now ≡ node_entries node = ap entries_of c.in-Fork.is ∙ ap node_entries (sym c.deref_mut-node.ensures.value) in
    let kept : IsNode node = subst (λ n. IsNode n) (sym c.deref_mut-node.ensures.value) (subst (λ t. IsTrie t) c.in-Fork.is c.requires.halves) in
    let told = fork_before c.args.trie.now node is kept c.args.key c.in-Before.ensures in
    sym told.find_is

pub returns-in-Before-clause-entries : goal.returns-in-Before-clause-entries
returns-in-Before-clause-entries g t c =
    let node = c.deref_mut-node.result.now in
    let is : entries_of c.args.trie.now ≡ node_entries node = ap entries_of c.in-Fork.is ∙ ap node_entries (sym c.deref_mut-node.ensures.value) in
    let kept : IsNode node = subst (λ n. IsNode n) (sym c.deref_mut-node.ensures.value) (subst (λ t. IsTrie t) c.in-Fork.is c.requires.halves) in
    let told = fork_before c.args.trie.now node is kept c.args.key c.in-Before.ensures in
    c.put_before.ensures.entries ∙ sym (told.put_is c.args.value)

pub returns-in-After-clause-value : goal.returns-in-After-clause-value
returns-in-After-clause-value g t c =
    let node = c.deref_mut-node.result.now in
    let is : entries_of c.args.trie.now ≡ node_entries node = ap entries_of c.in-Fork.is ∙ ap node_entries (sym c.deref_mut-node.ensures.value) in
    let kept : IsNode node = subst (λ n. IsNode n) (sym c.deref_mut-node.ensures.value) (subst (λ t. IsTrie t) c.in-Fork.is c.requires.halves) in
    let told = fork_after c.args.trie.now node is kept c.args.key c.in-After.ensures in
    sym told.find_is

pub returns-in-After-clause-entries : goal.returns-in-After-clause-entries
returns-in-After-clause-entries g t c =
    let node = c.deref_mut-node.result.now in
    let is : entries_of c.args.trie.now ≡ node_entries node = ap entries_of c.in-Fork.is ∙ ap node_entries (sym c.deref_mut-node.ensures.value) in
    let kept : IsNode node = subst (λ n. IsNode n) (sym c.deref_mut-node.ensures.value) (subst (λ t. IsTrie t) c.in-Fork.is c.requires.halves) in
    let told = fork_after c.args.trie.now node is kept c.args.key c.in-After.ensures in
    c.put_after.ensures.entries ∙ sym (told.put_is c.args.value)

pub returns-then-eq-clause-room : goal.returns-then-eq-clause-room
returns-then-eq-clause-room g t c = at_least _ _

pub put_over_low-requires-clause-halves : goal.put_over_low-requires-clause-halves
put_over_low-requires-clause-halves g t c = subst (λ n. IsNode n) (sym c.deref_mut-node.ensures.value) (subst (λ t. IsTrie t) c.in-Fork.is c.requires.halves)

pub put_over_high-requires-clause-halves : goal.put_over_high-requires-clause-halves
put_over_high-requires-clause-halves g t c = subst (λ n. IsNode n) (sym c.deref_mut-node.ensures.value) (subst (λ t. IsTrie t) c.in-Fork.is c.requires.halves)

pub common-fork-requires : goal.common-fork-requires
common-fork-requires g t c = c.in-Before.ensures

pub put_before-requires-clause-key : goal.put_before-requires-clause-key
put_before-requires-clause-key g t c = c.common-fork.ensures.low

pub common-fork-requires-in-After : goal.common-fork-requires-in-After
common-fork-requires-in-After g t c = c.in-After.ensures

pub put_after-requires-clause-key : goal.put_after-requires-clause-key
put_after-requires-clause-key g t c = c.common-fork-in-After.ensures.high

pub returns-in-Empty-clause-room : goal.returns-in-Empty-clause-room
returns-in-Empty-clause-room g t c = at_least _ _

pub returns-else-eq-clause-room : goal.returns-else-eq-clause-room
returns-else-eq-clause-room g t c = at_most _ _ (sym c.boxed.ensures.room)

pub returns-in-Same-clause-halves : goal.returns-in-Same-clause-halves
returns-in-Same-clause-halves g t c = subst (λ n. IsNode n) (sym c.deref_mut-node.ensures.value) (subst (λ t. IsTrie t) c.in-Fork.is c.requires.halves)

pub returns-in-Same-clause-room : goal.returns-in-Same-clause-room
returns-in-Same-clause-room g t c = at_least _ _

pub returns-in-Low-clause-room : goal.returns-in-Low-clause-room
returns-in-Low-clause-room g t c = c.put_in.ensures.room

pub returns-in-High-clause-room : goal.returns-in-High-clause-room
returns-in-High-clause-room g t c = c.put_in-in-High.ensures.room

pub returns-in-OverLow-clause-halves : goal.returns-in-OverLow-clause-halves
returns-in-OverLow-clause-halves g t c = c.put_over_low.ensures.halves

pub returns-in-OverLow-clause-room : goal.returns-in-OverLow-clause-room
returns-in-OverLow-clause-room g t c = at_most _ _ c.put_over_low.ensures.room

pub returns-in-OverHigh-clause-halves : goal.returns-in-OverHigh-clause-halves
returns-in-OverHigh-clause-halves g t c = c.put_over_high.ensures.halves

pub returns-in-OverHigh-clause-room : goal.returns-in-OverHigh-clause-room
returns-in-OverHigh-clause-room g t c = at_most _ _ c.put_over_high.ensures.room

pub returns-in-Before-clause-halves : goal.returns-in-Before-clause-halves
returns-in-Before-clause-halves g t c = c.put_before.ensures.halves

pub returns-in-Before-clause-room : goal.returns-in-Before-clause-room
returns-in-Before-clause-room g t c = at_most _ _ c.put_before.ensures.room

pub returns-in-After-clause-halves : goal.returns-in-After-clause-halves
returns-in-After-clause-halves g t c = c.put_after.ensures.halves

pub returns-in-After-clause-room : goal.returns-in-After-clause-room
returns-in-After-clause-room g t c = at_most _ _ c.put_after.ensures.room
