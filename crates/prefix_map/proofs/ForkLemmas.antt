-- What a look-up, a new value and a removal find among the entries of a fork, by where the prefix stands.
use Rattle.std.proofs.Common.{◌≡◌, ◌≤◌, Option, List, ◌∷◌, ◌++◌, [], ap, subst, ◌∙◌}
use Rattle.std.specs.Prelude.{Some, None}
use Rattle.std.specs.FinMap.Entries.{find, put}
use Rattle.net_types.specs.Keys.{prefix_cmp}
use Rattle.net_types.specs.declared.prefix.Prefix.{Prefix}
use Rattle.prefix_map.specs.Entries.{own, entries_of, node_entries, without}
use Rattle.prefix_map.specs.Halves.{past, LiesLow, LiesHigh}
use Rattle.prefix_map.specs.Tries.{IsNode}
use Rattle.prefix_map.specs.declared.trie.Trie.{Trie}
use Rattle.prefix_map.specs.declared.trie.Node.{Node}
use Rattle.prefix_map.proofs.NodeLemmas.{IsTold, told_here, told_low, told_high, out_over_low, out_over_high, out_before, out_after}

-- the same is told of a list that is equal
told_same : {V : Type 0} (q : Prefix) (es ds : List (Prefix × V)) (value : Option V) (changed : V → List (Prefix × V)) (rest : List (Prefix × V)) → es ≡ ds → IsTold q ds value changed rest → IsTold q es value changed rest
told_same q es ds value changed rest is told = record {
  find_is = ap (find prefix_cmp q) is ∙ told.find_is;
  put_is = λ v. ap (put prefix_cmp q v) is ∙ told.put_is v;
  without_is = ap (without q) is ∙ told.without_is;
}

module _ {V : Type 0} (t : Trie V) (n : Node V) (is : entries_of t ≡ node_entries n) (kept : IsNode n) (q : Prefix) where
  pub fork_here : n.at ≡ q → IsTold q (entries_of t) n.held (λ v. own n.at (Some v) ++ (entries_of n.low ++ entries_of n.high)) (own n.at None ++ (entries_of n.low ++ entries_of n.high))
  fork_here same =
      told_same q (entries_of t) (node_entries n) _ _ _ is
      (subst (λ p. IsTold p (node_entries n) n.held (λ v. own n.at (Some v) ++ (entries_of n.low ++ entries_of n.high)) (own n.at None ++ (entries_of n.low ++ entries_of n.high))) same (told_here n.at n.held (entries_of n.low) (entries_of n.high) kept.0 kept.1))

  pub fork_low : LiesLow n.at q → IsTold q (entries_of t) (find prefix_cmp q (entries_of n.low)) (λ v. own n.at n.held ++ (put prefix_cmp q v (entries_of n.low) ++ entries_of n.high)) (own n.at n.held ++ (without q (entries_of n.low) ++ entries_of n.high))
  fork_low there = told_same q (entries_of t) (node_entries n) _ _ _ is (told_low n.at n.held (entries_of n.low) (entries_of n.high) kept.0 kept.1 q there)

  pub fork_high : LiesHigh n.at q → IsTold q (entries_of t) (find prefix_cmp q (entries_of n.high)) (λ v. own n.at n.held ++ (entries_of n.low ++ put prefix_cmp q v (entries_of n.high))) (own n.at n.held ++ (entries_of n.low ++ without q (entries_of n.high)))
  fork_high there = told_same q (entries_of t) (node_entries n) _ _ _ is (told_high n.at n.held (entries_of n.low) (entries_of n.high) kept.0 kept.1 q there)

  pub fork_over_low : LiesLow q n.at → IsTold q (entries_of t) None (λ v. (q, v) ∷ node_entries n) (node_entries n)
  fork_over_low there = told_same q (entries_of t) (node_entries n) _ _ _ is (out_over_low n.at n.held (entries_of n.low) (entries_of n.high) kept.0 kept.1 q there)

  pub fork_over_high : LiesHigh q n.at → IsTold q (entries_of t) None (λ v. (q, v) ∷ node_entries n) (node_entries n)
  fork_over_high there = told_same q (entries_of t) (node_entries n) _ _ _ is (out_over_high n.at n.held (entries_of n.low) (entries_of n.high) kept.0 kept.1 q there)

  pub fork_before : past q ≤ n.at.address.0 → IsTold q (entries_of t) None (λ v. (q, v) ∷ node_entries n) (node_entries n)
  fork_before there = told_same q (entries_of t) (node_entries n) _ _ _ is (out_before n.at n.held (entries_of n.low) (entries_of n.high) kept.0 kept.1 q there)

  pub fork_after : past n.at ≤ q.address.0 → IsTold q (entries_of t) None (λ v. node_entries n ++ (q, v) ∷ []) (node_entries n)
  fork_after there = told_same q (entries_of t) (node_entries n) _ _ _ is (out_after n.at n.held (entries_of n.low) (entries_of n.high) kept.0 kept.1 q there)
