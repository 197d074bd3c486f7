use Rattle.std.proofs.Common.{ℕ, ◌≡◌, false, true, cond, not, sym, ap, ◌∙◌, arith}
use Rattle.std.specs.Prelude.{is_some}
use Rattle.std.specs.FinMap.Entries.{find, put}
use Rattle.net_types.specs.Keys.{tag_cmp}
use Rattle.tag_table.specs.Entries.{entries_of, value_in}
use Rattle.tag_table.proofs.PlaceLemmas.{counted_few, found_at, has_place, put_at, rises, table_put}
use Rattle.tag_table.proofs.table.TagTable.put.Goals as goal

pub put_at-before-requires : goal.put_at-before-requires
put_at-before-requires g c = has_place c.args.tag c.self.inside.places.items _ c.self.view_is c.requires.room

pub overflow_add-self : goal.overflow_add-self
overflow_add-self g c = let few = counted_few c.self.inside.places.items c.self.inside.count c.self.invariant in omega (arith, few)

pub invariant_of-self : goal.invariant_of-self
invariant_of-self g c =
    let place = has_place c.args.tag c.self.inside.places.items _ c.self.view_is c.requires.room in
    let none : is_some (value_in c.self.inside.places.items c.args.tag.0) ≡ false = ap is_some (sym c.put_at-before.ensures.value) ∙ c.is_none.ensures ∙ ap not c.if-is_none.true in
    let size = ap {B = ℕ} (λ b. cond b 1 0) none in
    table_put c.args.tag.0 c.args.value c.self.inside.places.items _ c.self.inside.count _ c.self.invariant c.put_at-before.ensures.items place (omega (arith, size))

pub invariant_of-self-else-is_none : goal.invariant_of-self-else-is_none
invariant_of-self-else-is_none g c =
    let place = has_place c.args.tag c.self.inside.places.items _ c.self.view_is c.requires.room in
    let some : is_some (value_in c.self.inside.places.items c.args.tag.0) ≡ true = ap is_some (sym c.put_at-before.ensures.value) ∙ c.is_none.ensures ∙ ap not c.if-is_none.false in
    let size = ap {B = ℕ} (λ b. cond b 1 0) some in
    table_put c.args.tag.0 c.args.value c.self.inside.places.items _ c.self.inside.count _ c.self.invariant c.put_at-before.ensures.items place (omega (arith, size))

pub returns-then-is_none-clause-value : goal.returns-then-is_none-clause-value
returns-then-is_none-clause-value g c = c.put_at-before.ensures.value ∙ sym (found_at c.args.tag c.self.inside.places.items) ∙ ap (λ s. find tag_cmp c.args.tag s.items) c.self.view_is

pub returns-then-is_none-clause-items : goal.returns-then-is_none-clause-items
returns-then-is_none-clause-items g c =
    let place = has_place c.args.tag c.self.inside.places.items _ c.self.view_is c.requires.room in
    ap entries_of c.put_at-before.ensures.items ∙ put_at c.args.tag c.args.value c.self.inside.places.items place ∙ ap (λ s. put tag_cmp c.args.tag c.args.value s.items) c.self.view_is

pub returns-then-is_none-clause-rising : goal.returns-then-is_none-clause-rising
returns-then-is_none-clause-rising g c = rises 0 c.put_at-before.new.places.items

pub returns-else-is_none-clause-value : goal.returns-else-is_none-clause-value
returns-else-is_none-clause-value g c = c.put_at-before.ensures.value ∙ sym (found_at c.args.tag c.self.inside.places.items) ∙ ap (λ s. find tag_cmp c.args.tag s.items) c.self.view_is

pub returns-else-is_none-clause-items : goal.returns-else-is_none-clause-items
returns-else-is_none-clause-items g c =
    let place = has_place c.args.tag c.self.inside.places.items _ c.self.view_is c.requires.room in
    ap entries_of c.put_at-before.ensures.items ∙ put_at c.args.tag c.args.value c.self.inside.places.items place ∙ ap (λ s. put tag_cmp c.args.tag c.args.value s.items) c.self.view_is

pub returns-else-is_none-clause-rising : goal.returns-else-is_none-clause-rising
returns-else-is_none-clause-rising g c = rises 0 c.put_at-before.new.places.items
