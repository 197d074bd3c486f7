use Rattle.std.proofs.Common.{ℕ, cond, sym, ap, ◌∙◌, arith}
use Rattle.net_types.specs.Keys.{tag_cmp}
use Rattle.std.specs.Option.{option_map}
use Rattle.ordered_map.specs.Lapsed.{changed_or_without, lasting, with_value}
use Rattle.tag_table.specs.Entries.{entries_of, value_in}
use Rattle.tag_table.proofs.PlaceLemmas.{counted_one, found_at, lapses_where, lasts_where, rises, table_lapsed, with_at, within}
use Rattle.tag_table.proofs.table.TagTable.change_or_remove.Goals as goal

pub overflow_sub-self : goal.overflow_sub-self
overflow_sub-self g c =
    counted_one c.args.tag.0 c.self.inside.places.items c.self.inside.count c.self.invariant
    (lapses_where (g.C.Change.changed c.args.change.now) g.V.Lapse.lapsed _ (sym c.change_or_take_at.ensures.lapsed ∙ c.if-change_or_take_at.true))

pub invariant_of-self : goal.invariant_of-self
invariant_of-self g c =
    let counted = counted_one c.args.tag.0 c.self.inside.places.items c.self.inside.count c.self.invariant
    (lapses_where (g.C.Change.changed c.args.change.now) g.V.Lapse.lapsed _ (sym c.change_or_take_at.ensures.lapsed ∙ c.if-change_or_take_at.true)) in
    let gone = ap {B = ℕ} (λ b. cond b 1 0) c.if-change_or_take_at.true in
    table_lapsed (g.C.Change.changed c.args.change.now) g.V.Lapse.lapsed c.args.tag.0 c.self.inside.places.items _ c.self.inside.count _ c.change_or_take_at.result c.self.invariant c.change_or_take_at.ensures.items c.change_or_take_at.ensures.lapsed
    (omega (arith, counted, gone))

pub invariant_of-self-else-change_or_take_at : goal.invariant_of-self-else-change_or_take_at
invariant_of-self-else-change_or_take_at g c =
    let gone = ap {B = ℕ} (λ b. cond b 1 0) c.if-change_or_take_at.false in
    table_lapsed (g.C.Change.changed c.args.change.now) g.V.Lapse.lapsed c.args.tag.0 c.self.inside.places.items _ c.self.inside.count _ c.change_or_take_at.result c.self.invariant c.change_or_take_at.ensures.items c.change_or_take_at.ensures.lapsed
    (omega (arith, gone))

pub returns-then-change_or_take_at-clause-items : goal.returns-then-change_or_take_at-clause-items
returns-then-change_or_take_at-clause-items g c =
    let f = g.C.Change.changed c.args.change.now in
    let ps = c.self.inside.places.items in
    ap entries_of c.change_or_take_at.ensures.items
    ∙ with_at c.args.tag (lasting g.V.Lapse.lapsed (option_map f (value_in ps c.args.tag.0))) ps (λ some. within ps c.args.tag.0 (lasts_where f g.V.Lapse.lapsed _ some))
    ∙ ap (λ o. with_value tag_cmp c.args.tag (lasting g.V.Lapse.lapsed (option_map f o)) (entries_of ps)) (sym (found_at c.args.tag ps))
    ∙ ap (λ s. changed_or_without tag_cmp c.args.tag f g.V.Lapse.lapsed s.items) c.self.view_is

pub returns-then-change_or_take_at-clause-rising : goal.returns-then-change_or_take_at-clause-rising
returns-then-change_or_take_at-clause-rising g c = rises 0 c.change_or_take_at.new.places.items

pub returns-else-change_or_take_at-clause-items : goal.returns-else-change_or_take_at-clause-items
returns-else-change_or_take_at-clause-items g c =
    let f = g.C.Change.changed c.args.change.now in
    let ps = c.self.inside.places.items in
    ap entries_of c.change_or_take_at.ensures.items
    ∙ with_at c.args.tag (lasting g.V.Lapse.lapsed (option_map f (value_in ps c.args.tag.0))) ps (λ some. within ps c.args.tag.0 (lasts_where f g.V.Lapse.lapsed _ some))
    ∙ ap (λ o. with_value tag_cmp c.args.tag (lasting g.V.Lapse.lapsed (option_map f o)) (entries_of ps)) (sym (found_at c.args.tag ps))
    ∙ ap (λ s. changed_or_without tag_cmp c.args.tag f g.V.Lapse.lapsed s.items) c.self.view_is

pub returns-else-change_or_take_at-clause-rising : goal.returns-else-change_or_take_at-clause-rising
returns-else-change_or_take_at-clause-rising g c = rises 0 c.change_or_take_at.new.places.items
