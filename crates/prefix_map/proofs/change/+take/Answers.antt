use Rattle.std.proofs.Common.{◌≡◌, ◌++◌, sym, ap, subst, ◌∙◌, ℕ, ◌≤◌, arith, refl}
use Rattle.prefix_map.specs.Entries.{entries_of, node_entries, own}
use Rattle.prefix_map.specs.Halves.{LiesLow, LiesHigh}
use Rattle.prefix_map.specs.Tries.{IsTrie, IsNode, AllKeys}
use Rattle.prefix_map.proofs.ListLemmas.{all_without}
use Rattle.prefix_map.proofs.ForkLemmas.{fork_here, fork_low, fork_high, fork_over_low, fork_over_high, fork_before, fork_after}
use Rattle.prefix_map.proofs.change.+take.Goals as goal

at_most : (a b : ℕ) → a ≡ b → a ≤ b
at_most a b is = omega (arith, is)

pub take_below-returns-in-Same-clause-value : goal.take_below-returns-in-Same-clause-value
take_below-returns-in-Same-clause-value g t c =
    let node = c.deref_mut-node.result.now in
    let is : entries_of c.args.trie.now ≡ node_entries node = ap entries_of c.in-Fork.is ∙ ap node_entries (sym c.deref_mut-node.ensures.value) in
    let kept : IsNode node = subst (λ n. IsNode n) (sym c.deref_mut-node.ensures.value) (subst (λ t. IsTrie t) c.in-Fork.is c.requires.halves) in
    let told = fork_here c.args.trie.now node is kept c.args.key c.in-Same.ensures in
    c.replace.ensures.value ∙ sym told.find_is

pub take_below-returns-in-Same-clause-entries : goal.take_below-returns-in-Same-clause-entries
take_below-returns-in-Same-clause-entries g t c =
    let node = c.deref_mut-node.result.now in
    let is : entries_of c.args.trie.now ≡ node_entries node = ap entries_of c.in-Fork.is ∙ ap node_entries (sym c.deref_mut-node.ensures.value) in
    let kept : IsNode node = subst (λ n. IsNode n) (sym c.deref_mut-node.ensures.value) (subst (λ t. IsTrie t) c.in-Fork.is c.requires.halves) in
    let told = fork_here c.args.trie.now node is kept c.args.key c.in-Same.ensures in
    ap (λ o. own node.at o ++ (entries_of node.low ++ entries_of node.high)) c.replace.ensures.after ∙ sym told.without_is

pub take_below-returns-in-Low-clause-value : goal.take_below-returns-in-Low-clause-value
take_below-returns-in-Low-clause-value g t c =
    let node = c.deref_mut-node.result.now in
    let is : entries_of c.args.trie.now ≡ node_entries node = ap entries_of c.in-Fork.is ∙ ap node_entries (sym c.deref_mut-node.ensures.value) in
    let kept : IsNode node = subst (λ n. IsNode n) (sym c.deref_mut-node.ensures.value) (subst (λ t. IsTrie t) c.in-Fork.is c.requires.halves) in
    let told = fork_low c.args.trie.now node is kept c.args.key c.in-Low.ensures in
    c.take_from.ensures.value ∙ sym told.find_is

pub take_below-returns-in-Low-clause-entries : goal.take_below-returns-in-Low-clause-entries
take_below-returns-in-Low-clause-entries g t c =
    let node = c.deref_mut-node.result.now in
    let is : entries_of c.args.trie.now ≡ node_entries node = ap entries_of c.in-Fork.is ∙ ap node_entries (sym c.deref_mut-node.ensures.value) in
    let kept : IsNode node = subst (λ n. IsNode n) (sym c.deref_mut-node.ensures.value) (subst (λ t. IsTrie t) c.in-Fork.is c.requires.halves) in
    let told = fork_low c.args.trie.now node is kept c.args.key c.in-Low.ensures in
    ap (λ es. own node.at node.held ++ (es ++ entries_of node.high)) c.take_from.ensures.entries ∙ sym told.without_is

pub take_below-returns-in-Low-clause-halves : goal.take_below-returns-in-Low-clause-halves
take_below-returns-in-Low-clause-halves g t c =
    let node = c.deref_mut-node.result.now in
    let is : entries_of c.args.trie.now ≡ node_entries node = ap entries_of c.in-Fork.is ∙ ap node_entries (sym c.deref_mut-node.ensures.value) in
    let kept : IsNode node = subst (λ n. IsNode n) (sym c.deref_mut-node.ensures.value) (subst (λ t. IsTrie t) c.in-Fork.is c.requires.halves) in
    (subst (λ es. AllKeys (LiesLow node.at) es) (sym c.take_from.ensures.entries) (all_without (LiesLow node.at) c.args.key (entries_of node.low) kept.0), kept.1, c.take_from.ensures.halves, kept.3)

pub take_below-returns-in-High-clause-value : goal.take_below-returns-in-High-clause-value
take_below-returns-in-High-clause-value g t c =
    let node = c.deref_mut-node.result.now in
    let is : entries_of c.args.trie.now ≡ node_entries node = ap entries_of c.in-Fork.is ∙ ap node_entries (sym c.deref_mut-node.ensures.value) in
    let kept : IsNode node = subst (λ n. IsNode n) (sym c.deref_mut-node.ensures.value) (subst (λ t. IsTrie t) c.in-Fork.is c.requires.halves) in
    let told = fork_high c.args.trie.now node is kept c.args.key c.in-High.ensures in
    c.take_from-in-High.ensures.value ∙ sym told.find_is

pub take_below-returns-in-High-clause-entries : goal.take_below-returns-in-High-clause-entries
take_below-returns-in-High-clause-entries g t c =
    let node = c.deref_mut-node.result.now in
    let is : entries_of c.args.trie.now ≡ node_entries node = ap entries_of c.in-Fork.is ∙ ap node_entries (sym c.deref_mut-node.ensures.value) in
    let kept : IsNode node = subst (λ n. IsNode n) (sym c.deref_mut-node.ensures.value) (subst (λ t. IsTrie t) c.in-Fork.is c.requires.halves) in
    let told = fork_high c.args.trie.now node is kept c.args.key c.in-High.ensures in
    ap (λ es. own node.at node.held ++ (entries_of node.low ++ es)) c.take_from-in-High.ensures.entries ∙ sym told.without_is

pub take_below-returns-in-High-clause-halves : goal.take_below-returns-in-High-clause-halves
take_below-returns-in-High-clause-halves g t c =
    let node = c.deref_mut-node.result.now in
    let is : entries_of c.args.trie.now ≡ node_entries node = ap entries_of c.in-Fork.is ∙ ap node_entries (sym c.deref_mut-node.ensures.value) in
    let kept : IsNode node = subst (λ n. IsNode n) (sym c.deref_mut-node.ensures.value) (subst (λ t. IsTrie t) c.in-Fork.is c.requires.halves) in
    (kept.0, subst (λ es. AllKeys (LiesHigh node.at) es) (sym c.take_from-in-High.ensures.entries) (all_without (LiesHigh node.at) c.args.key (entries_of node.high) kept.1), kept.2, c.take_from-in-High.ensures.halves)

pub take_below-returns-in-OverLow-clause-value : goal.take_below-returns-in-OverLow-clause-value
take_below-returns-in-OverLow-clause-value g t c =
    let node = c.deref_mut-node.result.now in
    let is : entries_of c.args.trie.now ≡ node_entries node = ap entries_of c.in-Fork.is ∙ ap node_entries (sym c.deref_mut-node.ensures.value) in
    let kept : IsNode node = subst (λ n. IsNode n) (sym c.deref_mut-node.ensures.value) (subst (λ t. IsTrie t) c.in-Fork.is c.requires.halves) in
    let told = fork_over_low c.args.trie.now node is kept c.args.key c.in-OverLow.ensures in
    sym told.find_is

pub take_below-returns-in-OverLow-clause-entries : goal.take_below-returns-in-OverLow-clause-entries
take_below-returns-in-OverLow-clause-entries g t c =
    let node = c.deref_mut-node.result.now in
    let is : entries_of c.args.trie.now ≡ node_entries node = ap entries_of c.in-Fork.is ∙ ap node_entries (sym c.deref_mut-node.ensures.value) in
    let kept : IsNode node = subst (λ n. IsNode n) (sym c.deref_mut-node.ensures.value) (subst (λ t. IsTrie t) c.in-Fork.is c.requires.halves) in
    let told = fork_over_low c.args.trie.now node is kept c.args.key c.in-OverLow.ensures in
    sym told.without_is

pub take_below-returns-in-OverHigh-clause-value : goal.take_below-returns-in-OverHigh-clause-value
take_below-returns-in-OverHigh-clause-value g t c =
    let node = c.deref_mut-node.result.now in
    let is : entries_of c.args.trie.now ≡ node_entries node = ap entries_of c.in-Fork.is ∙ ap node_entries (sym c.deref_mut-node.ensures.value) in
    let kept : IsNode node = subst (λ n. IsNode n) (sym c.deref_mut-node.ensures.value) (subst (λ t. IsTrie t) c.in-Fork.is c.requires.halves) in
    let told = fork_over_high c.args.trie.now node is kept c.args.key c.in-OverHigh.ensures in
    sym told.find_is

pub take_below-returns-in-OverHigh-clause-entries : goal.take_below-returns-in-OverHigh-clause-entries
take_below-returns-in-OverHigh-clause-entries g t c =
    let node = c.deref_mut-node.result.now in
    let is : entries_of c.args.trie.now ≡ node_entries node = ap entries_of c.in-Fork.is ∙ ap node_entries (sym c.deref_mut-node.ensures.value) in
    let kept : IsNode node = subst (λ n. IsNode n) (sym c.deref_mut-node.ensures.value) (subst (λ t. IsTrie t) c.in-Fork.is c.requires.halves) in
    let told = fork_over_high c.args.trie.now node is kept c.args.key c.in-OverHigh.ensures in
    sym told.without_is

pub take_below-returns-in-Before-clause-value : goal.take_below-returns-in-Before-clause-value
take_below-returns-in-Before-clause-value g t c =
    let node = c.deref_mut-node.result.now in
    let is : entries_of c.args.trie.now ≡ node_entries node = ap entries_of c.in-Fork.is ∙ ap node_entries (sym c.deref_mut-node.ensures.value) in
    let kept : IsNode node = subst (λ n. IsNode n) (sym c.deref_mut-node.ensures.value) (subst (λ t. IsTrie t) c.in-Fork.is c.requires.halves) in
    let told = fork_before c.args.trie.now node is kept c.args.key c.in-Before.ensures in
    sym told.find_is

pub take_below-returns-in-Before-clause-entries : goal.take_below-returns-in-Before-clause-entries
take_below-returns-in-Before-clause-entries g t c =
    let node = c.deref_mut-node.result.now in
    let is : entries_of c.args.trie.now ≡ node_entries node = ap entries_of c.in-Fork.is ∙ ap node_entries (sym c.deref_mut-node.ensures.value) in
    let kept : IsNode node = subst (λ n. IsNode n) (sym c.deref_mut-node.ensures.value) (subst (λ t. IsTrie t) c.in-Fork.is c.requires.halves) in
    let told = fork_before c.args.trie.now node is kept c.args.key c.in-Before.ensures in
    sym told.without_is

pub take_below-returns-in-After-clause-value : goal.take_below-returns-in-After-clause-value
take_below-returns-in-After-clause-value g t c =
    let node = c.deref_mut-node.result.now in
    let is : entries_of c.args.trie.now ≡ node_entries node = ap entries_of c.in-Fork.is ∙ ap node_entries (sym c.deref_mut-node.ensures.value) in
    let kept : IsNode node = subst (λ n. IsNode n) (sym c.deref_mut-node.ensures.value) (subst (λ t. IsTrie t) c.in-Fork.is c.requires.halves) in
    let told = fork_after c.args.trie.now node is kept c.args.key c.in-After.ensures in
    sym told.find_is

pub take_below-returns-in-After-clause-entries : goal.take_below-returns-in-After-clause-entries
take_below-returns-in-After-clause-entries g t c =
    let node = c.deref_mut-node.result.now in
    let is : entries_of c.args.trie.now ≡ node_entries node = ap entries_of c.in-Fork.is ∙ ap node_entries (sym c.deref_mut-node.ensures.value) in
    let kept : IsNode node = subst (λ n. IsNode n) (sym c.deref_mut-node.ensures.value) (subst (λ t. IsTrie t) c.in-Fork.is c.requires.halves) in
    let told = fork_after c.args.trie.now node is kept c.args.key c.in-After.ensures in
    sym told.without_is

pub take_below-returns-in-Empty-clause-halves : goal.take_below-returns-in-Empty-clause-halves
take_below-returns-in-Empty-clause-halves g t c = c.requires.halves

pub take_below-returns-in-Empty-clause-room : goal.take_below-returns-in-Empty-clause-room
take_below-returns-in-Empty-clause-room g t c = at_most _ _ refl

pub take_below-returns-then-eq-clause-room : goal.take_below-returns-then-eq-clause-room
take_below-returns-then-eq-clause-room g t c = at_most _ _ refl

pub take_below-returns-else-eq-clause-room : goal.take_below-returns-else-eq-clause-room
take_below-returns-else-eq-clause-room g t c = at_most _ _ refl

pub take_below-returns-in-Same-clause-halves : goal.take_below-returns-in-Same-clause-halves
take_below-returns-in-Same-clause-halves g t c = subst (λ n. IsNode n) (sym c.deref_mut-node.ensures.value) (subst (λ t. IsTrie t) c.in-Fork.is c.requires.halves)

pub take_below-returns-in-Same-clause-room : goal.take_below-returns-in-Same-clause-room
take_below-returns-in-Same-clause-room g t c = at_most _ _ refl

pub take_below-returns-in-Low-clause-room : goal.take_below-returns-in-Low-clause-room
take_below-returns-in-Low-clause-room g t c = c.take_from.ensures.room

pub take_below-returns-in-High-clause-room : goal.take_below-returns-in-High-clause-room
take_below-returns-in-High-clause-room g t c = c.take_from-in-High.ensures.room

pub take_below-returns-in-OverLow-clause-halves : goal.take_below-returns-in-OverLow-clause-halves
take_below-returns-in-OverLow-clause-halves g t c = subst (λ n. IsNode n) (sym c.deref_mut-node.ensures.value) (subst (λ t. IsTrie t) c.in-Fork.is c.requires.halves)

pub take_below-returns-in-OverLow-clause-room : goal.take_below-returns-in-OverLow-clause-room
take_below-returns-in-OverLow-clause-room g t c = at_most _ _ refl

pub take_below-returns-in-OverHigh-clause-halves :
    goal.take_below-returns-in-OverHigh-clause-halves
take_below-returns-in-OverHigh-clause-halves g t c = subst (λ n. IsNode n) (sym c.deref_mut-node.ensures.value) (subst (λ t. IsTrie t) c.in-Fork.is c.requires.halves)

pub take_below-returns-in-OverHigh-clause-room : goal.take_below-returns-in-OverHigh-clause-room
take_below-returns-in-OverHigh-clause-room g t c = at_most _ _ refl

pub take_below-returns-in-Before-clause-halves : goal.take_below-returns-in-Before-clause-halves
take_below-returns-in-Before-clause-halves g t c = subst (λ n. IsNode n) (sym c.deref_mut-node.ensures.value) (subst (λ t. IsTrie t) c.in-Fork.is c.requires.halves)

pub take_below-returns-in-Before-clause-room : goal.take_below-returns-in-Before-clause-room
take_below-returns-in-Before-clause-room g t c = at_most _ _ refl

pub take_below-returns-in-After-clause-halves : goal.take_below-returns-in-After-clause-halves
take_below-returns-in-After-clause-halves g t c = subst (λ n. IsNode n) (sym c.deref_mut-node.ensures.value) (subst (λ t. IsTrie t) c.in-Fork.is c.requires.halves)

pub take_below-returns-in-After-clause-room : goal.take_below-returns-in-After-clause-room
take_below-returns-in-After-clause-room g t c = at_most _ _ refl
