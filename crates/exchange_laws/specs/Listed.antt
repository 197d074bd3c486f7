-- A reply lists the pairs that go and the rules that come, in order: any rising list of the right pairs is that list (this exchange's own rule).
use Rattle.std.specs.Prelude.{◌≡◌, Bool, true, false, ◌&&◌, ◌||◌, not, List, Some, is_some}
use Rattle.std.specs.FinMap.{get}
use Rattle.std.specs.Ordering.{is_lt}
use Rattle.events.specs.Fits.{added, dropped, flows_of}
use Rattle.events.specs.State.{State}
use Rattle.events.specs.Tags.{is_live_pair}
use Rattle.exchange_laws.specs.Rules.{is_new}
use Rattle.net_types.specs.Keys.{pair_cmp}
use Rattle.net_types.specs.Sets.{IsRising, Member, union_over}
use Rattle.net_types.specs.declared.rule.Pair.{Pair}
use Rattle.net_types.specs.declared.rule.Rule.{Rule}

-- one pair comes before another
abbrev pub is_pair_before : Pair → Pair → Bool
is_pair_before a b = is_lt (pair_cmp a b)

-- the table has exactly the live pairs
abbrev pub HasLivePairs : State → Type 0
HasLivePairs s = (pair : Pair) → is_some (get s.table pair) ≡ is_live_pair s pair

-- these are exactly the pairs that are live in the one state and not in the other, in order
pub record AreLiveOnly (s s1 : State) (ks : List Pair) : Type 0 where
  pub rising : IsRising is_pair_before ks
  pub each : (pair : Pair) → Member pair ks → (is_live_pair s pair ≡ true) × (is_live_pair s1 pair ≡ false)
  pub all : (pair : Pair) → is_live_pair s pair ≡ true → is_live_pair s1 pair ≡ false → Member pair ks

-- exactly the pairs that pass a test, in order
pub record AreThose (test : Pair → Bool) (ks : List Pair) : Type 0 where
  pub rising : IsRising is_pair_before ks
  pub each : (pair : Pair) → Member pair ks → test pair ≡ true
  pub all : (pair : Pair) → test pair ≡ true → Member pair ks

-- the rules of a live pair go: it is live no more, or it is built anew
abbrev pub goes : State → State → (Pair → Bool) → Pair → Bool
goes s s1 is_rebuilt pair = is_live_pair s pair && (not (is_live_pair s1 pair) || is_rebuilt pair)

-- rules of a pair come: it becomes live, or is built anew and stays live
abbrev pub comes : State → State → (Pair → Bool) → Pair → Bool
comes s s1 is_rebuilt pair = is_live_pair s1 pair && is_new s is_rebuilt pair

-- the pairs whose rules go are those dropped
abbrev pub GoneAreDropped : Type 0
GoneAreDropped =
    (s s1 : State) (is_rebuilt : Pair → Bool) (ks : List Pair) → HasLivePairs s → HasLivePairs s1 → AreThose (goes s s1 is_rebuilt) ks → dropped s s1 is_rebuilt ≡ ks

-- the rules of the pairs whose rules come are those added
abbrev pub NewAreAdded : Type 0
NewAreAdded =
    (s s1 : State) (is_rebuilt : Pair → Bool) (ks : List Pair) (rules : Pair → List Rule) → HasLivePairs s → HasLivePairs s1 → AreThose (comes s s1 is_rebuilt) ks
    → ((pair : Pair) → Member pair ks → get s1.table pair ≡ Some (rules pair)) → added s s1 is_rebuilt ≡ union_over (λ pair. flows_of (pair, rules pair)) ks
