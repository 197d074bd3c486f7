use Rattle.std.proofs.Common.{arith, ◌≡◌, Some, length, refl, sym, ◌∙◌}
use Rattle.std.specs.List.{slice_get}
use Rattle.std.proofs.lemmas.Option.{slice_get_read, slice_get_within}
use Rattle.policy_compile.proofs.OutcomeLemmas.{within-left, within-put}
use Rattle.policy_compile.proofs.outcomes.places_within.Goals as goal
use Rattle.policy_compile.proofs.outcomes.places_within.Goals.{then-within+in_ok-put, else-within}

pub loop-place-preserved : goal.loop-place-preserved
loop-place-preserved c =
    let cubes = c.args.cubes.now in
    let outer = c.args.outer.now in
    let n = c.loop-place.place in
    let x = c.index-cubes-place.result in
    let at : slice_get cubes n ≡ Some x = slice_get_read cubes (length cubes) n x refl c.loop-place-test.true c.index-cubes-place.is in
    elim c.if-within.branch [
      | then-within+in_ok-put w ↦ rw w.places-is (within-put cubes outer c.loop-place.places w.put.new.self n x at
          (sym c.within.ensures.value ∙ w.if-within.true) w.in_ok-put.ensures.put c.loop-place.invariant)
      | else-within w ↦ rw w.places-is (within-left cubes outer c.loop-place.places n x at
          (sym c.within.ensures.value ∙ w.if-within.false) c.loop-place.invariant)
    ]

pub returns : goal.returns
returns c = λ k m there.
    let inside = slice_get_within c.args.cubes.now k m there in
    c.loop-place.invariant.below k m there (omega (arith, inside, c.loop-place-test.false))
