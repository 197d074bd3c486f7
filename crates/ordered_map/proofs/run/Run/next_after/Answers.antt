-- The entry behind the key, or at the gap.
use Rattle.std.proofs.Common.{sym, ap, ◌∙◌, arith, ◌+◌}
use Rattle.ordered_map.specs.Entries.{head_of}
use Rattle.ordered_map.proofs.RunLemmas.{after_here, gap_at, head_at, held_above, is_within, none_above}
use Rattle.ordered_map.proofs.run.Run.next_after.Goals as goal

pub overflow_add-place : goal.overflow_add-place
overflow_add-place g c =
    let within = is_within g.K.Ord.cmp c.args.key.now c.args.self.now _ _ c.in-Held.ensures.placed in
    let few = c.in-Held.ensures.few in
    omega (arith, within, few)

pub returns-in-Held : goal.returns-in-Held
returns-in-Held g c =
    c.entry_at.ensures
    ∙ sym (ap head_of (held_above g.K.Ord.cmp c.args.key.now g.met.K.Ord.total c.args.self.now _ c.requires.rising c.in-Held.ensures.placed ∙ sym (after_here g.K.Ord.cmp c.args.key.now c.args.self.now _ _ c.in-Held.ensures.placed))
    ∙ head_at c.args.self.now (c.in-Held.place + 1))

pub returns-in-Free : goal.returns-in-Free
returns-in-Free g c =
    c.entry_at-in-Free.ensures
    ∙ sym (ap head_of ((gap_at g.K.Ord.cmp c.args.key.now g.met.K.Ord.total c.args.self.now _ c.requires.rising c.in-Free.ensures.placed).above_is) ∙ head_at c.args.self.now c.in-Free.place)

pub returns-in-Beyond : goal.returns-in-Beyond
returns-in-Beyond g c = sym (ap head_of (none_above g.K.Ord.cmp c.args.key.now c.args.self.now c.in-Beyond.ensures.placed))
