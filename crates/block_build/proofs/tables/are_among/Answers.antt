-- One more cube is among the cells.
use Rattle.std.proofs.Common.{◌≡◌, ◌+◌, ◌++◌, ◌∷◌, [], ap, arith, inl, inr, sym, subst, take, ◌∙◌}
use Rattle.std.proofs.lemmas.List.{take_all, take_more}
use Rattle.net_types.proofs.SetLemmas.{Member-append_cases}
use Rattle.net_types.specs.Sets.{Member}
use Rattle.net_types.specs.declared.cube.Cube.{Cube}
use Rattle.block_build.proofs.tables.are_among.Goals as goal

pub loop-cube-preserved : goal.loop-cube-preserved
loop-cube-preserved c = λ x k.
    let cubes = c.args.cubes.now in
    let i = c.loop-cube.cube-index in
    let cube = c.cube-item.result in
    let more : take (i + 1) cubes ≡ take i cubes ++ cube ∷ [] = take_more cubes i cube c.loop-cube-test.true ∙ ap (λ y. take i cubes ++ y ∷ []) (sym c.cube-item.is) in
    elim (Member-append_cases (take i cubes) (cube ∷ []) x (subst (Member x) more k)) [
      | inl old ↦ c.loop-cube.invariant x old
      | inr new ↦ elim new [ inl same ↦ subst (λ (y : Cube). Member y c.args.cells.now) (sym same) (c.has.ensures c.if-not-has.false) | inr none ↦ elim none [ ] ]
    ]

pub returns : goal.returns
returns c = λ yes x k.
    c.loop-cube.invariant x (subst (Member x) (sym (take_all c.loop-cube.cube-index c.args.cubes.now (omega (arith, c.loop-cube-test.false)))) k)
