-- Up to a place values are changed, and stay from there on.
use Rattle.std.proofs.Common.{length, ap, ◌∙◌, arith}
use Rattle.ordered_map.proofs.RunLemmas.{up_to_all, up_to_next, up_to_none, up_to_size}
use Rattle.ordered_map.proofs.run.Run.change_all.Goals as goal

pub loop-place-init : goal.loop-place-init
loop-place-init g c = (up_to_none (g.C.Change.changed c.args.change.now) c.args.self.now c.self.inside.entries.items c.self.view_is, c.self.invariant.fits)

pub invariant_of-self : goal.invariant_of-self
invariant_of-self g c =
    let size = up_to_size (g.C.Change.changed c.args.change.now) c.args.self.now _ c.loop-place.self-inside.entries.items c.loop-place.invariant.0 in
    let all = ap length c.self.view_is in
    let few = c.self.invariant.few in
    record { few = omega (arith, size, all, few); fits = c.loop-place.invariant.1 }

pub loop-place-smaller : goal.loop-place-smaller
loop-place-smaller g c =
    let within = c.loop-place-test.true in
    let size = c.len.ensures in
    let same = c.change_value.ensures.len in
    omega (arith, within, size, same)

pub loop-place-preserved : goal.loop-place-preserved
loop-place-preserved g c =
    let within = c.loop-place-test.true in
    let size = c.len.ensures ∙ c.loop-place.self-inside.entries.ok.0 in
    let capacity = c.change_value.ensures.capacity in
    let fits = c.loop-place.invariant.1 in (
      up_to_next (g.C.Change.changed c.args.change.now) c.args.self.now c.loop-place.place c.loop-place.self-inside.entries.items _ c.loop-place.invariant.0 (omega (arith, within, size)) c.change_value.ensures.entries,
      omega (arith, capacity, fits),
    )

pub returns : goal.returns
returns g c =
    let size = c.len.ensures ∙ c.loop-place.self-inside.entries.ok.0 in
    let all = c.loop-place-test.false in
    up_to_all (g.C.Change.changed c.args.change.now) c.args.self.now c.loop-place.place c.loop-place.self-inside.entries.items c.loop-place.invariant.0 (omega (arith, size, all))
