-- What single units of a job do (this exchange's own rule).
use Rattle.std.specs.Prelude.{◌≡◌, ℕ, ◌-◌, ◌<◌, ◌≤◌, ◌⊎◌, true, List, [], ◌∷◌, length, Some, is_some, slice_get}
use Rattle.std.specs.declared.cmp.Ordering.{Ordering}
use Rattle.std.specs.FinMap.{FinMap, get, insert, remove}
use Rattle.block_build.specs.Tight.{IsTightForm}
use Rattle.events.specs.Sound.{IsTight}
use Rattle.net_types.specs.Keys.{pair_cmp, prefix_cmp}
use Rattle.net_types.specs.Sets.{Member}
use Rattle.net_types.specs.declared.address.Tag.{Tag}
use Rattle.net_types.specs.declared.rule.Pair.{Pair}
use Rattle.net_types.specs.declared.rule.Rule.{Rule}
use Rattle.prefix_classes.specs.Classes.{members}
use Rattle.recompile.specs.Covering.{NeedsAtMost}
use Rattle.recompile.specs.Setting.{Setting}
use Rattle.recompile.specs.Underway.{BuiltPairs, Underway}

-- all tags with members are listed
abbrev pub AreListed : FinMap prefix_cmp Tag → List Tag → Type 0
AreListed tags listed = (t : Tag) → 0 < members tags t → Member t listed

-- the second list has those of the first that satisfy this
abbrev pub KeepsThose : {A : Type 0} → (A → Type 0) → List A → List A → Type 0
KeepsThose {A} P old new = (x : A) → P x → Member x old → Member x new

-- a list ends with this one
abbrev pub IsLast : {A : Type 0} → List A → A → Type 0
IsLast xs x = Some x ≡ slice_get xs (length xs - 1)

-- the second list has those of the first that satisfy this, but for this one
abbrev pub KeepsOthers : {A : Type 0} → (A → Type 0) → A → List A → List A → Type 0
KeepsOthers {A} P x old new = (y : A) → P y → Member y old → Member y new ⊎ (y ≡ x)

-- the table has rules for a pair
abbrev pub HasRules : FinMap pair_cmp (List Rule) → Pair → Type 0
HasRules table pair = is_some (get table pair) ≡ true

-- the pair is built: these rules are tight, or a tight form of them is put in
abbrev pub IsBuiltFrom : Pair → List Rule → BuiltPairs → BuiltPairs → Type 0
IsBuiltFrom pair old before after = (IsTight old × (after ≡ before)) ⊎ ((made : List Rule) × IsTightForm old made × (after ≡ insert before pair made))

-- no more pairs than a job lists, which are more than any memory holds
abbrev pub AreListable : List Pair → Type 0
AreListable pairs = length pairs ≤ 562949953421312

-- what needed at most some units needs so many fewer
abbrev pub NeedsFewer : Setting → ℕ → Underway → Underway → Type 0
NeedsFewer s done old new = (units : ℕ) → NeedsAtMost s old units → NeedsAtMost s new (units - done)

-- a map without these keys
abbrev pub without_each : {K X : Type 0} {R : K → K → Ordering} → List K → FinMap R X → FinMap R X
without_each [] m = m
without_each (k ∷ ks) m = without_each ks (remove m k)
