-- The entry at the place, and a new one at a gap.
use Rattle.std.proofs.Common.{sym, ap, subst, ◌∙◌, length}
use Rattle.ordered_map.specs.Runs.{IsExchanged}
use Rattle.ordered_map.proofs.RunLemmas.{IsGap, gap_at, gap_past, gap_put, held_put}
use Rattle.ordered_map.proofs.SizeLemmas.{held_up_to, held_within, run_same, up_to}
use Rattle.ordered_map.proofs.run.Run.put.Goals as goal

pub returns-in-Held-clause-put : goal.returns-in-Held-clause-put
returns-in-Held-clause-put g c =
    held_put g.K.Ord.cmp c.args.key c.args.self.now _ g.met.K.Ord.total c.requires.rising c.in-Held.ensures.placed c.args.value.now _ _ c.requires.given
    (subst (λ ds. IsExchanged ds c.in-Held.place c.args.value.now c.exchange_value.new.given c.exchange_value.new.entries.items) c.self.view_is c.exchange_value.ensures.entries)

pub returns-in-Free-clause-put : goal.returns-in-Free-clause-put
returns-in-Free-clause-put g c =
    let gap = gap_at g.K.Ord.cmp c.args.key g.met.K.Ord.total c.args.self.now _ c.requires.rising c.in-Free.ensures.placed in
    let at = c.put_at.ensures in
    gap_put g.K.Ord.cmp c.args.key c.args.self.now c.in-Free.place gap c.put_at.result c.args.value.now c.put_at.new.value c.put_at.new.self c.requires.given at.used at.entries at.key at.kept at.same

pub returns-in-Beyond-clause-put : goal.returns-in-Beyond-clause-put
returns-in-Beyond-clause-put g c =
    let size = c.len-place.ensures ∙ c.self.inside.entries.ok.0 ∙ ap length c.self.view_is in
    let gap = subst (IsGap g.K.Ord.cmp c.args.key c.args.self.now) (sym size) (gap_past g.K.Ord.cmp c.args.key c.args.self.now c.in-Beyond.ensures.placed) in
    let at = c.put_at-in-Beyond.ensures in
    gap_put g.K.Ord.cmp c.args.key c.args.self.now c.len-place.result gap c.put_at-in-Beyond.result c.args.value.now c.put_at-in-Beyond.new.value c.put_at-in-Beyond.new.self c.requires.given at.used at.entries at.key at.kept at.same

pub place-requires : goal.place-requires
place-requires g c = c.requires.rising

pub exchange_value-requires-clause-within : goal.exchange_value-requires-clause-within
exchange_value-requires-clause-within g c = held_within g.K.Ord.cmp c.args.key c.args.self.now _ _ _ (c.self.inside.entries.ok.0 ∙ ap length c.self.view_is) c.in-Held.ensures.placed

pub exchange_value-requires-clause-given : goal.exchange_value-requires-clause-given
exchange_value-requires-clause-given g c = c.requires.given

pub invariant_of-self : goal.invariant_of-self
invariant_of-self g c = run_same _ _ c.self.invariant (sym c.exchange_value.new.entries.ok.0 ∙ c.exchange_value.ensures.len ∙ c.self.inside.entries.ok.0) c.exchange_value.ensures.capacity

pub put_at-requires-clause-within : goal.put_at-requires-clause-within
put_at-requires-clause-within g c = held_up_to g.K.Ord.cmp c.args.key c.args.self.now _ _ c.in-Free.ensures.placed

pub put_at-requires-clause-given : goal.put_at-requires-clause-given
put_at-requires-clause-given g c = c.requires.given

pub put_at-requires-in-Beyond-clause-within : goal.put_at-requires-in-Beyond-clause-within
put_at-requires-in-Beyond-clause-within g c = up_to _ _ (c.len-place.ensures ∙ c.self.inside.entries.ok.0 ∙ ap length c.self.view_is)

pub put_at-requires-in-Beyond-clause-given : goal.put_at-requires-in-Beyond-clause-given
put_at-requires-in-Beyond-clause-given g c = c.requires.given

pub returns-in-Free-clause-full : goal.returns-in-Free-clause-full
returns-in-Free-clause-full g c = c.put_at.ensures.full

pub returns-in-Beyond-clause-full : goal.returns-in-Beyond-clause-full
returns-in-Beyond-clause-full g c = c.put_at-in-Beyond.ensures.full
