-- The entry at the place, and none at a gap.
use Rattle.std.proofs.Common.{sym, ap, ◌∙◌, length, ◌+◌}
use Rattle.std.specs.Prelude.{Some, slice_index_or, remove}
use Rattle.ordered_map.proofs.RunLemmas.{found_there, gap_at, gap_past, is_there, taken_out}
use Rattle.ordered_map.proofs.SizeLemmas.{held_within, run_less}
use Rattle.ordered_map.proofs.run.Run.take.Goals as goal

pub returns-in-Held-clause-value : goal.returns-in-Held-clause-value
returns-in-Held-clause-value g c =
    let first = c.in-Held.ensures.placed in
    let there = c.remove.ensures.value ∙ ap (λ ds. slice_index_or ds c.in-Held.place c.remove.result) c.self.view_is ∙ is_there g.K.Ord.cmp c.args.key.now c.args.self.now _ _ first c.remove.result in
    ap (λ e. Some e.1) there ∙ sym (found_there g.K.Ord.cmp c.args.key.now g.met.K.Ord.total c.args.self.now _ c.requires.rising first)

pub returns-in-Held-clause-entries : goal.returns-in-Held-clause-entries
returns-in-Held-clause-entries g c =
    c.remove.ensures.items ∙ ap (λ ds. remove ds c.in-Held.place) c.self.view_is
    ∙ taken_out g.K.Ord.cmp c.args.key.now g.met.K.Ord.total c.args.self.now _ c.requires.rising c.in-Held.ensures.placed

pub returns-in-Free-clause-value : goal.returns-in-Free-clause-value
returns-in-Free-clause-value g c = sym ((gap_at g.K.Ord.cmp c.args.key.now g.met.K.Ord.total c.args.self.now _ c.requires.rising c.in-Free.ensures.placed).find_is)

pub returns-in-Free-clause-entries : goal.returns-in-Free-clause-entries
returns-in-Free-clause-entries g c = sym ((gap_at g.K.Ord.cmp c.args.key.now g.met.K.Ord.total c.args.self.now _ c.requires.rising c.in-Free.ensures.placed).without_is)

pub returns-in-Beyond-clause-value : goal.returns-in-Beyond-clause-value
returns-in-Beyond-clause-value g c = sym ((gap_past g.K.Ord.cmp c.args.key.now c.args.self.now c.in-Beyond.ensures.placed).find_is)

pub returns-in-Beyond-clause-entries : goal.returns-in-Beyond-clause-entries
returns-in-Beyond-clause-entries g c = sym ((gap_past g.K.Ord.cmp c.args.key.now c.args.self.now c.in-Beyond.ensures.placed).without_is)

pub place-requires : goal.place-requires
place-requires g c = c.requires.rising

pub remove-requires : goal.remove-requires
remove-requires g c = held_within g.K.Ord.cmp c.args.key.now c.args.self.now _ _ _ (c.self.inside.entries.ok.0 ∙ ap length c.self.view_is) c.in-Held.ensures.placed

pub invariant_of-self : goal.invariant_of-self
invariant_of-self g c = run_less _ _ c.self.invariant (ap (λ n. n + 1) (sym c.remove.new.self.ok.0) ∙ c.remove.ensures.len ∙ c.self.inside.entries.ok.0) c.remove.ensures.capacity
