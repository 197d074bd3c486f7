-- What the reply to a line that builds rules puts into the table (this exchange's own rule).
use Rattle.std.specs.Prelude.{◌≡◌, ◌<◌, ◌^◌, Bool, true, false, ◌||◌, List, [], Some, is_none}
use Rattle.std.specs.FinMap.{FinMap, get}
use Rattle.events.specs.After.{put_flows, without_pairs}
use Rattle.events.specs.Fits.{added, dropped}
use Rattle.events.specs.Sound.{IsRight}
use Rattle.events.specs.State.{State}
use Rattle.events.specs.Tags.{retagged}
use Rattle.exchange_laws.specs.Rules.{IsTableAfter, IsTagged, is_new}
use Rattle.net_types.specs.Answers.{Policies}
use Rattle.net_types.specs.Keys.{pair_cmp}
use Rattle.net_types.specs.Exports.{Routing}
use Rattle.net_types.specs.declared.address.PortNo.{PortNo}
use Rattle.net_types.specs.declared.route.Part.{Part}
use Rattle.net_types.specs.declared.rule.Pair.{Pair}
use Rattle.net_types.specs.declared.rule.Rule.{Rule}

-- A pair that stays and isn't built anew keeps its rules, and one that is new or built anew has some.
pub record IsBuiltOn (s s1 : State) (is_rebuilt : Pair → Bool) : Type 0 where
  pub stays : (pair : Pair) (old new : List Rule) → is_rebuilt pair ≡ false → get s.table pair ≡ Some old → get s1.table pair ≡ Some new → old ≡ new
  pub some : (pair : Pair) → (is_none (get s.table pair) || is_rebuilt pair) ≡ true → get s1.table pair ≡ Some [] → ⊥

-- the pairs dropped are taken out, the rules added are put in, and the table is the new one
abbrev pub RepliesBuildTables : Type 0
RepliesBuildTables =
    (s s1 : State) (is_rebuilt : Pair → Bool) → IsBuiltOn s s1 is_rebuilt
    → put_flows (without_pairs s.table (dropped s s1 is_rebuilt)) (added s s1 is_rebuilt) ≡ s1.table

-- a pair that is new has rules
abbrev pub HasNewRules : State → (Pair → Bool) → FinMap pair_cmp (List Rule) → Type 0
HasNewRules s is_rebuilt table = (pair : Pair) → is_new s is_rebuilt pair ≡ true → get table pair ≡ Some [] → ⊥

-- what a line that builds rules puts into the table
abbrev pub ChangesAreBuilt : Type 0
ChangesAreBuilt =
    (s : State) (r : Routing) (is_rebuilt : Pair → Bool) (table : FinMap pair_cmp (List Rule)) → IsTagged s → IsTableAfter s (retagged s r) is_rebuilt table
    → HasNewRules s is_rebuilt table → IsBuiltOn s (record (retagged s r) { table = table }) is_rebuilt

-- right rules are some rules
abbrev pub RightRulesAreSome : Type 0
RightRulesAreSome = (ps : Policies) (part : Part) (port : PortNo) (rules : List Rule) → port.0 < 2 ^ 16 → IsRight ps part port rules → rules ≡ [] → ⊥
