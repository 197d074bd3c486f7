use Rattle.std.proofs.Common.{ℕ, ◌≡◌, false, true, cond, sym, ap, ◌∙◌, arith}
use Rattle.std.specs.Prelude.{is_some}
use Rattle.tag_table.specs.Entries.{value_in}
use Rattle.tag_table.proofs.PlaceLemmas.{counted_one, table_without}
use Rattle.tag_table.proofs.places.take_counted.Goals as goal

pub overflow_sub-count : goal.overflow_sub-count
overflow_sub-count g c =
    let counted = counted_one c.args.tag.0 c.args.places.now.items c.args.count.now c.requires.table
    (ap is_some (sym c.take_at-before.ensures.value) ∙ sym c.is_some.ensures ∙ c.if-is_some.true) in
    omega (arith, counted)

pub returns-then-is_some-clause-table : goal.returns-then-is_some-clause-table
returns-then-is_some-clause-table g c =
    let some : is_some (value_in c.args.places.now.items c.args.tag.0) ≡ true = ap is_some (sym c.take_at-before.ensures.value) ∙ sym c.is_some.ensures ∙ c.if-is_some.true in
    let counted = counted_one c.args.tag.0 c.args.places.now.items c.args.count.now c.requires.table some in
    let size = ap {B = ℕ} (λ b. cond b 1 0) some in
    table_without c.args.tag.0 c.args.places.now.items _ c.args.count.now _ c.requires.table c.take_at-before.ensures.items (omega (arith, size, counted))

pub returns-else-is_some-clause-table : goal.returns-else-is_some-clause-table
returns-else-is_some-clause-table g c =
    let none : is_some (value_in c.args.places.now.items c.args.tag.0) ≡ false = ap is_some (sym c.take_at-before.ensures.value) ∙ sym c.is_some.ensures ∙ c.if-is_some.false in
    let size = ap {B = ℕ} (λ b. cond b 1 0) none in
    table_without c.args.tag.0 c.args.places.now.items _ c.args.count.now _ c.requires.table c.take_at-before.ensures.items (omega (arith, size))
