-- How many tags are free, and how many rules the table has (this exchange's own rule).
use Rattle.std.specs.Prelude.{◌≡◌, ℕ, ◌+◌, ◌≤◌, Bool, true, [], List, length, filter, sum_by, unwrap_or}
use Rattle.std.specs.FinMap.{entries, get, keys}
use Rattle.events.specs.Fits.{added, cells, dropped}
use Rattle.events.specs.Sound.{IsSound, rule_count}
use Rattle.events.specs.State.{State}
use Rattle.events.specs.Tags.{free_tags, is_live, is_live_pair, live_pairs, tags}
use Rattle.exchange_laws.specs.Listed.{is_pair_before}
use Rattle.exchange_laws.specs.Replies.{IsBuiltOn}
use Rattle.exchange_laws.specs.Retagging.{KeptAreLive, LiveAreKept, TagsArePooled}
use Rattle.net_types.specs.Answers.{Policies}
use Rattle.net_types.specs.Sets.{IsRising, Member}
use Rattle.net_types.specs.declared.rule.Pair.{Pair}

-- the free tags and the live ones are all of the pool
abbrev pub TagsAreCounted : Type 0
TagsAreCounted = (s : State) → length (free_tags s) + length (filter (is_live s) (tags s)) ≡ s.size

-- how many rules pairs have
abbrev pub rules_at : State → List Pair → ℕ
rules_at s pairs = sum_by (λ pair. length (unwrap_or (get s.table pair) [])) pairs

-- the rules are those that were there, less those dropped, and those added
abbrev pub RulesAreCounted : Type 0
RulesAreCounted =
    (s s1 : State) (is_rebuilt : Pair → Bool) → IsBuiltOn s s1 is_rebuilt
    → rule_count s1 + rules_at s (dropped s s1 is_rebuilt) ≡ rule_count s + length (added s s1 is_rebuilt)

-- where exactly the live tags are kept, the free tags and those that are kept are all of the pool
abbrev pub FreeTagsAreCounted : Type 0
FreeTagsAreCounted = (s : State) → TagsArePooled s → KeptAreLive s → LiveAreKept s → length (free_tags s) + length (entries s.kept) ≡ s.size

-- the pairs of the table are the live ones, in order
abbrev pub PairsAreLive : Type 0
PairsAreLive = (s : State) → IsSound s → TagsArePooled s → keys s.table ≡ live_pairs s

-- numbers of distinct live pairs, each at most the pair's cells, are together at most all cells
abbrev pub NumbersFitCells : Type 0
NumbersFitCells =
    (s : State) (ps : Policies) (ks : List Pair) (count : Pair → ℕ) → TagsArePooled s → IsRising is_pair_before ks
    → ((pair : Pair) → Member pair ks → (is_live_pair s pair ≡ true) × (count pair ≤ cells ps s pair)) → sum_by count ks ≤ sum_by (cells ps s) (live_pairs s)
