-- The entry at the place, which lapses or lasts, and none at a gap.
use Rattle.std.proofs.Common.{◌≡◌, true, false, cond, sym, ap, ◌∙◌, length, ◌+◌}
use Rattle.std.specs.Prelude.{Some, None, slice_index_or, remove}
use Rattle.std.specs.Option.{option_map}
use Rattle.ordered_map.specs.Lapsed.{lapsing}
use Rattle.ordered_map.proofs.RunLemmas.{found_there, gap_at, gap_past, held_lapses, held_lasts, none_lapses, removed, there}
use Rattle.ordered_map.proofs.SizeLemmas.{held_within, run_less, run_same}
use Rattle.ordered_map.proofs.run.Run.change_or_take.Goals as goal

pub returns-then-has_lapsed-clause-value : goal.returns-then-has_lapsed-clause-value
returns-then-has_lapsed-clause-value g c =
    let first = c.in-Held.ensures.placed in
    let f = g.C.Change.changed c.args.change.now in
    let changed = c.change_value.ensures.entries first.before first.entry first.after (c.self.view_is ∙ first.whole) first.size in
    let seen = c.index.ensures ∙ (λ i. slice_index_or (changed i) (first.size i) c.index.result.now) ∙ there first.before (first.entry.0, f first.entry.1) first.after c.index.result.now in
    let out = c.remove.ensures.value ∙ (λ i. slice_index_or (changed i) (first.size i) c.remove.result) ∙ there first.before (first.entry.0, f first.entry.1) first.after c.remove.result in
    let lapsed : g.V.Lapse.lapsed (f first.entry.1) ≡ true = ap (λ e. g.V.Lapse.lapsed e.1) (sym seen) ∙ sym c.has_lapsed.ensures ∙ c.if-has_lapsed.true in
    ap (λ e. Some e.1) out
    ∙ sym (ap (λ s. lapsing g.V.Lapse.lapsed (option_map f s)) (found_there g.K.Ord.cmp c.args.key.now g.met.K.Ord.total c.args.self.now _ c.requires.rising first)
    ∙ ap (λ b. cond b (Some (f first.entry.1)) None) lapsed)

pub returns-then-has_lapsed-clause-entries : goal.returns-then-has_lapsed-clause-entries
returns-then-has_lapsed-clause-entries g c =
    let first = c.in-Held.ensures.placed in
    let f = g.C.Change.changed c.args.change.now in
    let changed = c.change_value.ensures.entries first.before first.entry first.after (c.self.view_is ∙ first.whole) first.size in
    let seen = c.index.ensures ∙ (λ i. slice_index_or (changed i) (first.size i) c.index.result.now) ∙ there first.before (first.entry.0, f first.entry.1) first.after c.index.result.now in
    let lapsed : g.V.Lapse.lapsed (f first.entry.1) ≡ true = ap (λ e. g.V.Lapse.lapsed e.1) (sym seen) ∙ sym c.has_lapsed.ensures ∙ c.if-has_lapsed.true in
    c.remove.ensures.items ∙ (λ i. remove (changed i) (first.size i)) ∙ removed first.before (first.entry.0, f first.entry.1) first.after
    ∙ sym (held_lapses g.K.Ord.cmp c.args.key.now g.met.K.Ord.total c.args.self.now _ c.requires.rising f g.V.Lapse.lapsed first lapsed)

pub returns-else-has_lapsed-clause-value : goal.returns-else-has_lapsed-clause-value
returns-else-has_lapsed-clause-value g c =
    let first = c.in-Held.ensures.placed in
    let f = g.C.Change.changed c.args.change.now in
    let changed = c.change_value.ensures.entries first.before first.entry first.after (c.self.view_is ∙ first.whole) first.size in
    let seen = c.index.ensures ∙ (λ i. slice_index_or (changed i) (first.size i) c.index.result.now) ∙ there first.before (first.entry.0, f first.entry.1) first.after c.index.result.now in
    let lasts : g.V.Lapse.lapsed (f first.entry.1) ≡ false = ap (λ e. g.V.Lapse.lapsed e.1) (sym seen) ∙ sym c.has_lapsed.ensures ∙ c.if-has_lapsed.false in
    sym (ap (λ s. lapsing g.V.Lapse.lapsed (option_map f s)) (found_there g.K.Ord.cmp c.args.key.now g.met.K.Ord.total c.args.self.now _ c.requires.rising first)
    ∙ ap (λ b. cond b (Some (f first.entry.1)) None) lasts)

pub returns-else-has_lapsed-clause-entries : goal.returns-else-has_lapsed-clause-entries
returns-else-has_lapsed-clause-entries g c =
    let first = c.in-Held.ensures.placed in
    let f = g.C.Change.changed c.args.change.now in
    let changed = c.change_value.ensures.entries first.before first.entry first.after (c.self.view_is ∙ first.whole) first.size in
    let seen = c.index.ensures ∙ (λ i. slice_index_or (changed i) (first.size i) c.index.result.now) ∙ there first.before (first.entry.0, f first.entry.1) first.after c.index.result.now in
    let lasts : g.V.Lapse.lapsed (f first.entry.1) ≡ false = ap (λ e. g.V.Lapse.lapsed e.1) (sym seen) ∙ sym c.has_lapsed.ensures ∙ c.if-has_lapsed.false in
    changed ∙ sym (held_lasts g.K.Ord.cmp c.args.key.now g.met.K.Ord.total c.args.self.now _ c.requires.rising f g.V.Lapse.lapsed first lasts)

pub returns-in-Free-clause-value : goal.returns-in-Free-clause-value
returns-in-Free-clause-value g c =
    let gap = gap_at g.K.Ord.cmp c.args.key.now g.met.K.Ord.total c.args.self.now _ c.requires.rising c.in-Free.ensures.placed in
    sym (ap (λ s. lapsing g.V.Lapse.lapsed (option_map (g.C.Change.changed c.args.change.now) s)) gap.find_is)

pub returns-in-Free-clause-entries : goal.returns-in-Free-clause-entries
returns-in-Free-clause-entries g c =
    let gap = gap_at g.K.Ord.cmp c.args.key.now g.met.K.Ord.total c.args.self.now _ c.requires.rising c.in-Free.ensures.placed in
    sym (none_lapses g.K.Ord.cmp c.args.key.now (g.C.Change.changed c.args.change.now) g.V.Lapse.lapsed c.args.self.now gap.find_is gap.without_is)

pub returns-in-Beyond-clause-value : goal.returns-in-Beyond-clause-value
returns-in-Beyond-clause-value g c =
    let gap = gap_past g.K.Ord.cmp c.args.key.now c.args.self.now c.in-Beyond.ensures.placed in
    sym (ap (λ s. lapsing g.V.Lapse.lapsed (option_map (g.C.Change.changed c.args.change.now) s)) gap.find_is)

pub returns-in-Beyond-clause-entries : goal.returns-in-Beyond-clause-entries
returns-in-Beyond-clause-entries g c =
    let gap = gap_past g.K.Ord.cmp c.args.key.now c.args.self.now c.in-Beyond.ensures.placed in
    sym (none_lapses g.K.Ord.cmp c.args.key.now (g.C.Change.changed c.args.change.now) g.V.Lapse.lapsed c.args.self.now gap.find_is gap.without_is)

pub place-requires : goal.place-requires
place-requires g c = c.requires.rising

pub change_value-requires : goal.change_value-requires
change_value-requires g c = held_within g.K.Ord.cmp c.args.key.now c.args.self.now _ _ _ (c.self.inside.entries.ok.0 ∙ ap length c.self.view_is) c.in-Held.ensures.placed

pub index-requires : goal.index-requires
index-requires g c = held_within g.K.Ord.cmp c.args.key.now c.args.self.now _ _ _ (c.change_value.ensures.len ∙ c.self.inside.entries.ok.0 ∙ ap length c.self.view_is) c.in-Held.ensures.placed

pub remove-requires : goal.remove-requires
remove-requires g c = held_within g.K.Ord.cmp c.args.key.now c.args.self.now _ _ _ (c.change_value.ensures.len ∙ c.self.inside.entries.ok.0 ∙ ap length c.self.view_is) c.in-Held.ensures.placed

pub invariant_of-self : goal.invariant_of-self
invariant_of-self g c = run_less _ _ c.self.invariant (ap (λ n. n + 1) (sym c.remove.new.self.ok.0) ∙ c.remove.ensures.len ∙ c.change_value.ensures.len ∙ c.self.inside.entries.ok.0) (c.remove.ensures.capacity ∙ c.change_value.ensures.capacity)

pub invariant_of-self-else-has_lapsed : goal.invariant_of-self-else-has_lapsed
invariant_of-self-else-has_lapsed g c = run_same _ _ c.self.invariant (sym c.change_value.new.entries.ok.0 ∙ c.change_value.ensures.len ∙ c.self.inside.entries.ok.0) c.change_value.ensures.capacity
