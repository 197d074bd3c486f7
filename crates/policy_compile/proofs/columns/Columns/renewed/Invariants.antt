-- The columns so far have the same keys and places.
use Rattle.std.proofs.Common.{◌≡◌, ℕ, take}
use Rattle.policy_compile.specs.Columns.{AreBelow, AreCarried, given}
use Rattle.policy_compile.proofs.columns.Columns.renewed.Given as goal

abbrev pub invariant-loop-column : goal.invariant-loop-column
invariant-loop-column l = record {
  given : (k : ℕ) → given l.made.sets.sets.items l.made.columns.items k ≡ given l.self.sets.sets.items (take l.column-index l.column-items) k;
  below : (n : ℕ) → AreBelow n l.self.columns.items → AreBelow n l.made.columns.items;
  carried : AreCarried l.self.sets.sets.items l.made.sets.sets.items l.asked.noted.items;
}
