use Rattle.std.proofs.Common.{◌≡◌, ℕ, vec_len, ◌-◌, ◌+◌}
use Rattle.registry.specs.Owners.{numbers_at, first_at}
use Rattle.registry.proofs.owners.grow.Given as goal

abbrev pub invariant-loop-alloc : goal.invariant-loop-alloc
invariant-loop-alloc l = record {
  numbers : (n : ℕ) → numbers_at l.owners.items n ≡ numbers_at l.initial.owners.items n;
  first : (n : ℕ) → first_at l.owners.items n ≡ first_at l.initial.owners.items n;
}

abbrev pub decreases-loop-alloc : goal.decreases-loop-alloc
decreases-loop-alloc l = l.place + 1 - vec_len l.owners
