use Rattle.std.proofs.Common.{length, refl, sym, ap, ◌∙◌, arith}
use Rattle.std.proofs.lemmas.List.{length-set}
use Rattle.tag_table.proofs.PlaceLemmas.{after_all, after_next, after_none}
use Rattle.tag_table.proofs.places.change_all.Goals as goal

pub loop-place-init : goal.loop-place-init
loop-place-init g c = (after_none (g.C.Change.changed c.args.change.now) c.args.places.now.items, refl)

pub loop-place-preserved : goal.loop-place-preserved
loop-place-preserved g c = (
  after_next (g.C.Change.changed c.args.change.now) c.loop-place.place c.loop-place.places.items c.change_at.new.places.items c.change_at.ensures ∙ c.loop-place.invariant.0,
  ap length c.change_at.ensures ∙ length-set c.loop-place.places.items c.loop-place.place _ ∙ c.loop-place.invariant.1,
)

pub returns : goal.returns
returns g c = sym (after_all (g.C.Change.changed c.args.change.now) c.loop-place.place c.loop-place.places.items (let size = c.len-place-end.ensures in omega (arith, size, c.loop-place-test.false, c.loop-place.invariant.1, c.args.places.now.ok.0))) ∙ c.loop-place.invariant.0
