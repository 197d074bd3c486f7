-- The entry at the place, and a new one at a gap.
use Rattle.std.proofs.Common.{sym, ap, subst, ◌∙◌, length}
use Rattle.std.specs.Prelude.{is_some}
use Rattle.ordered_map.proofs.RunLemmas.{IsGap, found_there, gap_at, gap_given, gap_past, held_given}
use Rattle.ordered_map.proofs.SizeLemmas.{held_up_to, held_within, run_same, up_to}
use Rattle.ordered_map.proofs.run.Run.change_or_put.Goals as goal

pub returns-in-Held : goal.returns-in-Held
returns-in-Held g c =
    let first = c.in-Held.ensures.placed in (
      c.requires.given ∙ sym (ap is_some (found_there g.K.Ord.cmp c.args.key g.met.K.Ord.total c.args.self.now _ c.requires.rising first)),
      c.change_value.ensures.entries first.before first.entry first.after (c.self.view_is ∙ first.whole) first.size
          ∙ sym (held_given g.K.Ord.cmp c.args.key c.args.self.now _ g.met.K.Ord.total c.requires.rising first (g.C.Change.changed c.args.change.now) c.args.value.now),
    )

pub returns-in-Free : goal.returns-in-Free
returns-in-Free g c =
    let gap = gap_at g.K.Ord.cmp c.args.key g.met.K.Ord.total c.args.self.now _ c.requires.rising c.in-Free.ensures.placed in
    let at = c.put_at.ensures in
    gap_given g.K.Ord.cmp c.args.key c.args.self.now c.in-Free.place gap c.put_at.result c.args.value.now c.put_at.new.value c.put_at.new.self c.requires.given at.used at.entries at.key at.kept at.same (g.C.Change.changed c.args.change.now)

pub returns-in-Beyond : goal.returns-in-Beyond
returns-in-Beyond g c =
    let size = c.len-place.ensures ∙ c.self.inside.entries.ok.0 ∙ ap length c.self.view_is in
    let gap = subst (IsGap g.K.Ord.cmp c.args.key c.args.self.now) (sym size) (gap_past g.K.Ord.cmp c.args.key c.args.self.now c.in-Beyond.ensures.placed) in
    let at = c.put_at-in-Beyond.ensures in
    gap_given g.K.Ord.cmp c.args.key c.args.self.now c.len-place.result gap c.put_at-in-Beyond.result c.args.value.now c.put_at-in-Beyond.new.value c.put_at-in-Beyond.new.self c.requires.given at.used at.entries at.key at.kept at.same (g.C.Change.changed c.args.change.now)

pub place-requires : goal.place-requires
place-requires g c = c.requires.rising

pub change_value-requires : goal.change_value-requires
change_value-requires g c = held_within g.K.Ord.cmp c.args.key c.args.self.now _ _ _ (c.self.inside.entries.ok.0 ∙ ap length c.self.view_is) c.in-Held.ensures.placed

pub invariant_of-self : goal.invariant_of-self
invariant_of-self g c = run_same _ _ c.self.invariant (sym c.change_value.new.entries.ok.0 ∙ c.change_value.ensures.len ∙ c.self.inside.entries.ok.0) c.change_value.ensures.capacity

pub put_at-requires-clause-within : goal.put_at-requires-clause-within
put_at-requires-clause-within g c = held_up_to g.K.Ord.cmp c.args.key c.args.self.now _ _ c.in-Free.ensures.placed

pub put_at-requires-clause-given : goal.put_at-requires-clause-given
put_at-requires-clause-given g c = c.requires.given

pub put_at-requires-in-Beyond-clause-within : goal.put_at-requires-in-Beyond-clause-within
put_at-requires-in-Beyond-clause-within g c = up_to _ _ (c.len-place.ensures ∙ c.self.inside.entries.ok.0 ∙ ap length c.self.view_is)

pub put_at-requires-in-Beyond-clause-given : goal.put_at-requires-in-Beyond-clause-given
put_at-requires-in-Beyond-clause-given g c = c.requires.given
