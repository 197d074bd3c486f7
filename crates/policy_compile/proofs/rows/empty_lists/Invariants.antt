-- So many empty lists.
use Rattle.std.proofs.Common.{◌≡◌, ℕ, [], length}
use Rattle.policy_compile.specs.Rows.{list_at}
use Rattle.policy_compile.proofs.rows.empty_lists.Given as goal

abbrev pub invariant-loop-list : goal.invariant-loop-list
invariant-loop-list l = record {
  long : length l.lists.items ≡ l._list;
  empty : (n : ℕ) → list_at l.lists.items n ≡ [];
}
