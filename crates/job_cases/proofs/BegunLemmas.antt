-- A job covers the classes and the table that it begins with.
use Rattle.std.proofs.Common.{◌≡◌, ◌≤◌, true, List, [], length, map, sym, subst, inl, arith}
use Rattle.std.specs.FinMap.{FinMap, entries, get, keys}
use Rattle.std.specs.Prelude.{is_some}
use Rattle.std.proofs.lemmas.List.{length-map}
use Rattle.exchange_laws.proofs.Lists.{key_Member}
use Rattle.net_types.proofs.OrderLemmas.{pairs_total}
use Rattle.net_types.proofs.TieLemmas.{pair_tie}
use Rattle.net_types.specs.Keys.{pair_cmp}
use Rattle.net_types.specs.Sets.{Member}
use Rattle.net_types.specs.declared.rule.Pair.{Pair}
use Rattle.net_types.specs.declared.rule.Rule.{Rule}
use Rattle.prefix_classes.specs.Classes.{Classes}
use Rattle.recompile.specs.Changing.{CoversListed}
use Rattle.recompile.specs.Covering.{Covers}
use Rattle.recompile.specs.Setting.{setting}
use Rattle.recompile.specs.Underway.{Underway}
use Rattle.recompile.proofs.ChangeLemmas.{counted_is_there, second}

-- where the prefixes aren't too many
pub begun_covers : (classes : Classes) (table : FinMap pair_cmp (List Rule)) (pairs : List Pair) (j : Underway) → pairs ≡ keys table → length (entries classes.tag) ≤ 1048576 → CoversListed classes.tag [] pairs j → Covers (setting classes table) j
begun_covers classes table pairs j all carried covers = covers (setting classes table) (record {
  prefixes = omega arith;
  tags = λ t used. inl used;
  pairs = there;
  few = record {
    tags = map second (entries classes.tag);
    few = let count : length (map second (entries classes.tag)) ≡ length (entries classes.tag) = length-map (entries classes.tag) second in omega (arith, count, carried);
    all_tags = λ t used. counted_is_there t (entries classes.tag) used;
  };
})
  where
    there : (pair : Pair) → is_some (get table pair) ≡ true → Member pair pairs
    there pair has = subst (Member pair) (sym all) (key_Member pair_cmp pairs_total pair_tie table pair has)
