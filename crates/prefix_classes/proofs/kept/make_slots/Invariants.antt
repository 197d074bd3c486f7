-- A slot without a signature is like none.
use Rattle.std.proofs.Common.{◌≡◌, ℕ}
use Rattle.tag_table.specs.Entries.{value_in}
use Rattle.prefix_classes.proofs.kept.make_slots.Given as goal

abbrev pub invariant-loop-next : goal.invariant-loop-next
invariant-loop-next l = (n : ℕ) → value_in l.shared.items n ≡ value_in l.fn.shared.items n
