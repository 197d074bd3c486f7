use Rattle.std.proofs.Common.{ℕ, cond, ap, ◌∙◌, arith}
use Rattle.net_types.specs.Keys.{tag_cmp}
use Rattle.ordered_map.specs.Changes.{changed_or_put}
use Rattle.tag_table.specs.Entries.{entries_of}
use Rattle.tag_table.proofs.PlaceLemmas.{counted_few, given_at, has_place, rises, table_given}
use Rattle.tag_table.proofs.table.TagTable.change_or_put.Goals as goal

pub change_or_put_at-requires : goal.change_or_put_at-requires
change_or_put_at-requires g c = has_place c.args.tag c.self.inside.places.items _ c.self.view_is c.requires.room

pub overflow_add-self : goal.overflow_add-self
overflow_add-self g c = let few = counted_few c.self.inside.places.items c.self.inside.count c.self.invariant in omega (arith, few)

pub invariant_of-self : goal.invariant_of-self
invariant_of-self g c =
    let place = has_place c.args.tag c.self.inside.places.items _ c.self.view_is c.requires.room in
    let size = ap {B = ℕ} (λ b. cond b 1 0) c.if-change_or_put_at.true in
    table_given c.args.tag.0 _ c.self.inside.places.items _ c.self.inside.count _ c.change_or_put_at.result c.self.invariant c.change_or_put_at.ensures.items place c.change_or_put_at.ensures.given (omega (arith, size))

pub invariant_of-self-else-change_or_put_at : goal.invariant_of-self-else-change_or_put_at
invariant_of-self-else-change_or_put_at g c =
    let place = has_place c.args.tag c.self.inside.places.items _ c.self.view_is c.requires.room in
    let size = ap {B = ℕ} (λ b. cond b 1 0) c.if-change_or_put_at.false in
    table_given c.args.tag.0 _ c.self.inside.places.items _ c.self.inside.count _ c.change_or_put_at.result c.self.invariant c.change_or_put_at.ensures.items place c.change_or_put_at.ensures.given (omega (arith, size))

pub returns-then-change_or_put_at-clause-items : goal.returns-then-change_or_put_at-clause-items
returns-then-change_or_put_at-clause-items g c =
    let place = has_place c.args.tag c.self.inside.places.items _ c.self.view_is c.requires.room in
    ap entries_of c.change_or_put_at.ensures.items
    ∙ given_at c.args.tag (g.C.Change.changed c.args.change.now) c.args.value c.self.inside.places.items place
    ∙ ap (λ s. changed_or_put tag_cmp c.args.tag (g.C.Change.changed c.args.change.now) c.args.value s.items) c.self.view_is

pub returns-then-change_or_put_at-clause-rising : goal.returns-then-change_or_put_at-clause-rising
returns-then-change_or_put_at-clause-rising g c = rises 0 c.change_or_put_at.new.places.items

pub returns-else-change_or_put_at-clause-items : goal.returns-else-change_or_put_at-clause-items
returns-else-change_or_put_at-clause-items g c =
    let place = has_place c.args.tag c.self.inside.places.items _ c.self.view_is c.requires.room in
    ap entries_of c.change_or_put_at.ensures.items
    ∙ given_at c.args.tag (g.C.Change.changed c.args.change.now) c.args.value c.self.inside.places.items place
    ∙ ap (λ s. changed_or_put tag_cmp c.args.tag (g.C.Change.changed c.args.change.now) c.args.value s.items) c.self.view_is

pub returns-else-change_or_put_at-clause-rising : goal.returns-else-change_or_put_at-clause-rising
returns-else-change_or_put_at-clause-rising g c = rises 0 c.change_or_put_at.new.places.items
