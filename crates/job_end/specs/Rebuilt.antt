-- The rules that a job built, and the table that they leave (this exchange's own rule).
use Rattle.std.specs.Prelude.{◌≡◌, ◌≤◌, Bool, ◌&&◌, not, false, List, [], length, map, filter, Option, Some, None, unwrap_or}
use Rattle.std.specs.Cmp.Lexicographic.{pointwise}
use Rattle.std.specs.FinMap.{FinMap, get, keys}
use Rattle.events.specs.After.{without_pairs}
use Rattle.events.specs.Sound.{same_rule}
use Rattle.fast_path.specs.Committing.{Block, with_blocks}
use Rattle.fast_path.specs.Pairs.{is_among}
use Rattle.net_types.specs.Attributes.{same_option}
use Rattle.net_types.specs.Keys.{pair_cmp}
use Rattle.net_types.specs.declared.rule.Pair.{Pair}
use Rattle.net_types.specs.declared.rule.Rule.{Rule}
use Rattle.recompile.specs.Underway.{BuiltPairs}

-- the rules of pairs
abbrev pub Rules : Type 0
Rules = FinMap pair_cmp (List Rule)

-- the other rules that were built for these pairs
abbrev pub blocks_of : BuiltPairs → List Pair → List Block
blocks_of built pairs = map (λ pair. let b : Block = (pair, unwrap_or (get built pair) []) in b) pairs

-- the table without the pairs that go, and with what was built for those that get other rules
abbrev pub table_with : Rules → BuiltPairs → List Pair → List Pair → Rules
table_with table built gone changed = with_blocks (without_pairs table gone) (blocks_of built changed)

-- other rules aren't those that there are; none are no others, and nothing has no others
abbrev pub are_others : Option (List Rule) → Option (List Rule) → Bool
are_others None made = false
are_others (Some old) None = false
are_others (Some old) (Some rules) = not (same_option (pointwise same_rule) (Some old) (Some rules))

-- a pair has rules, and those that were built for it are others
abbrev pub has_others : Rules → BuiltPairs → Pair → Bool
has_others table built pair = are_others (get table pair) (get built pair)

-- a pair doesn't go and gets other rules
abbrev pub is_changed : Rules → BuiltPairs → List Pair → Pair → Bool
is_changed table built gone pair = not (is_among gone pair) && has_others table built pair

-- the pairs that don't go and get other rules
abbrev pub changed_pairs : Rules → BuiltPairs → List Pair → List Pair
changed_pairs table built gone = filter (is_changed table built gone) (keys built)

-- a pair has rules, and other ones were built for it, which are no more
pub record IsFewer (table : Rules) (built : BuiltPairs) (pair : Pair) : Type 0 where
  pub old : List Rule
  pub had : get table pair ≡ Some old
  pub rules : List Rule
  pub is : get built pair ≡ Some rules
  pub fewer : length rules ≤ length old
