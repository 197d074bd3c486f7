use Rattle.std.proofs.Common.{arith, ◌≡◌, ◌+◌, ◌/◌, List, [], ◌∷◌, ◌++◌, length, take, drop, length-take, sym, ap, ◌∙◌, subst}
use Rattle.std.proofs.lemmas.List.{take-append-drop, take_more}
use Rattle.net_types.specs.declared.cube.Cube.{Cube}
use Rattle.cells.specs.Firsts.{firsts}
use Rattle.cells.specs.Marks.{AreAllNoted, AreLeft}
use Rattle.cells.proofs.MarkLemmas.{firsts-early, firsts-more}
use Rattle.cells.proofs.firsts.firsts_of.Goals as goal

pub returns-then-is_empty-clause-firsts : goal.returns-then-is_empty-clause-firsts
returns-then-is_empty-clause-firsts c =
    let cells = c.args.inside.now.cells.now in
    let cubes = c.args.cubes.now in
    let found = c.loop-place.found.items in
    let i = c.loop-place.place in
    subst (λ (xs : List Cube). found ≡ firsts xs cells) (take-append-drop i cubes)
    (firsts-early (take i cubes) (drop i cubes) cells found c.loop-place.invariant.0
    (λ p within. c.loop-place.invariant.1 p within (c.is_empty.ensures c.if-is_empty.true (p / 64))))

pub loop-place-preserved : goal.loop-place-preserved
loop-place-preserved c =
    let cells = c.args.inside.now.cells.now in
    let cubes = c.args.cubes.now in
    let old = c.loop-place.found.items in
    let new = c.note.new.found.items in
    let left = c.in_ok-left-2.left in
    let i = c.loop-place.place in
    let x = c.index-cubes-place.result in
    let more : take (i + 1) cubes ≡ take i cubes ++ x ∷ [] = take_more cubes i x c.loop-place-test.true ∙ ap (λ d. take i cubes ++ d ∷ []) (sym c.index-cubes-place.is) in
    let same = c.loop-place.invariant.2 in
    let at : i ≡ length (take i cubes) = omega (arith, length-take i cubes, c.loop-place-test.true) in (
      firsts-more (take i cubes) cells x i old new at c.loop-place.invariant.0 (subst (λ (cs : List Cube). AreAllNoted i x cs old new) same c.in_ok-left-2.ensures.noted)
          ∙ ap (λ (xs : List Cube). firsts xs cells) (sym more),
      subst (λ (cs : List Cube). AreLeft cs new left) same c.in_ok-left-2.ensures.left,
      c.in_ok-left-2.ensures.cells ∙ same,
    )
