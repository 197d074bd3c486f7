-- The locations so far are added.
use Rattle.std.proofs.Common.{◌++◌, [], ℕ, cond, take}
use Rattle.net_types.specs.Sets.{SameMembers}
use Rattle.place_sets.specs.Places.{has_place}
use Rattle.policy_compile.specs.Columns.{KeepSets, given, set_at}
use Rattle.policy_compile.specs.Groups.{alone, picked, with_each}
use Rattle.policy_compile.proofs.singles.add_each.Given as goal

abbrev pub invariant-loop-place : goal.invariant-loop-place
invariant-loop-place l = record {
  given : (k : ℕ) → SameMembers (alone l.locations (given l.made.sets.sets.items l.made.columns.items k))
      (alone l.locations (given l.fn.made.sets.sets.items l.fn.made.columns.items k) ++ cond (set_at l.fn.made.sets.sets.items l.number k) (with_each l.set (picked (take l.place l.locations) (has_place l.ways))) []);
  kept : KeepSets l.fn.made.sets.sets.items l.made.sets.sets.items;
}
