-- What entries that rise are seen as, its keys, and what it is without one of them or with another.
use Rattle.std.proofs.Common.{◌≡◌, true, List, map, sym, ap, ◌∙◌}
use Rattle.std.specs.FinMap.{from_sorted, get, insert, keys, remove}
use Rattle.std.specs.FinMap.Entries.{find, is_sorted, put}
use Rattle.net_types.proofs.OrderLemmas.{pairs_total}
use Rattle.net_types.proofs.PlaceLemmas.{entries_of_sorted, get_sorted, insert_sorted, remove_sorted}
use Rattle.net_types.proofs.TieLemmas.{pair_cmp-IsAntisymmetric}
use Rattle.net_types.specs.Keys.{pair_cmp}
use Rattle.net_types.specs.declared.rule.Pair.{Pair}
use Rattle.net_types.specs.declared.rule.Rule.{Rule}
use Rattle.ordered_map.specs.Entries.{without}
use Rattle.recompile.specs.Underway.{BuiltPairs}

module _ (es : List (Pair × List Rule)) (rises : is_sorted pair_cmp es ≡ true) (m : BuiltPairs) (is : from_sorted es ≡ m) where
  pub found_is : (pair : Pair) → find pair_cmp pair es ≡ get m pair
  found_is pair = sym (get_sorted pair_cmp es pair rises) ∙ ap (λ n. get n pair) is

  pub without_is : (pair : Pair) (ds : List (Pair × List Rule)) → ds ≡ without pair_cmp pair es → from_sorted ds ≡ remove m pair
  without_is pair ds e = ap from_sorted e ∙ remove_sorted pair_cmp pairs_total pair_cmp-IsAntisymmetric pair es rises ∙ ap (λ n. remove n pair) is

  pub put_is : (pair : Pair) (made : List Rule) (ds : List (Pair × List Rule)) → ds ≡ put pair_cmp pair made es → from_sorted ds ≡ insert m pair made
  put_is pair made ds e = ap from_sorted e ∙ insert_sorted pair_cmp pairs_total pair made es rises ∙ ap (λ n. insert n pair made) is

  pub keys_are : map (λ (e : Pair × List Rule). e.0) es ≡ keys m
  keys_are = ap (map (λ (e : Pair × List Rule). e.0)) (sym (entries_of_sorted pair_cmp es rises)) ∙ ap keys is
