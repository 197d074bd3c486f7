-- What units of a job do (this exchange's own rule).
use Rattle.std.specs.Prelude.{◌≡◌, ℕ, ◌-◌, ◌<◌, ◌≤◌, List, Some, unwrap_or}
use Rattle.std.specs.FinMap.{get}
use Rattle.block_build.specs.Tight.{IsTightForm}
use Rattle.net_types.specs.declared.rule.Pair.{Pair}
use Rattle.net_types.specs.declared.rule.Rule.{Rule}
use Rattle.prefix_classes.specs.Merging.{IsMergeOf}
use Rattle.recompile.specs.Covering.{Covers}
use Rattle.recompile.specs.Setting.{Setting}
use Rattle.recompile.specs.Underway.{Underway}
use Rattle.recompile.specs.declared.swap.Progress.{Progress}
use Rattle.recompile.specs.declared.swap.Progress.TheVariants.{Working, Ready}
use Rattle.recompile.specs.declared.swap.Swap.{Swap}

-- The moves that merge the classes, and other rules for pairs. For each pair of the table these, or where there are none those that
-- it has, are a tight form of those that it has.
pub record IsSwap (s : Setting) (swap : Swap) : Type 0 where
  pub moves : IsMergeOf s.tag s.kept swap.moves
  pub built : (pair : Pair) (old : List Rule) → get s.table pair ≡ Some old → IsTightForm old (unwrap_or (get swap.built pair) old)

-- the job with what it had built
abbrev pub with_built : Underway → Swap → Underway
with_built j swap = record j { built = swap.built }

-- It is still working exactly where it owes more than the units, and then owes so many fewer. Else the swap is ready, the job
-- owes what it owed, and it covers again once it gets the swap back.
abbrev pub IsProgress : Setting → ℕ → Underway → Underway → Progress → Type 0
IsProgress s units old new (Working left) = (units < old.owed) × (left ≡ old.owed - units) × (new.owed ≡ left) × Covers s new
IsProgress s units old new (Ready swap) = (old.owed ≤ units) × (new.owed ≡ old.owed) × IsSwap s swap × Covers s (with_built new swap)
