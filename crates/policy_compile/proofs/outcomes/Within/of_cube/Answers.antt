use Rattle.std.proofs.Common.{◌≡◌, ◌∙◌, sym, ap}
use Rattle.net_types.specs.Cubes.{everything, lies_within_cube}
use Rattle.net_types.proofs.CubeLemmas.{has-everything, within-from_has}
use Rattle.classifier.proofs.SeenLemmas.{cube_eq_is, same_cube_exact}
use Rattle.place_sets.specs.Places.{has_place}
use Rattle.policy_compile.proofs.ColumnLemmas.{set-read}
use Rattle.policy_compile.proofs.outcomes.Within.of_cube.Goals as goal

pub returns-then-eq-clause-tells : goal.returns-then-eq-clause-tells
returns-then-eq-clause-tells c = λ k m there.
    let outer = c.args.outer.now in
    let all = c.everything.result in
    let same : outer ≡ everything = same_cube_exact outer all (sym (cube_eq_is outer all) ∙ sym c.eq.ensures ∙ c.if-eq.true) ∙ c.everything.ensures in
    sym (ap (lies_within_cube m) same ∙ within-from_has m everything (λ x _. has-everything x))

pub returns-clause-tells : goal.returns-clause-tells
returns-clause-tells c = λ k m there.
    let new = c.number_of.new.self in
    ap (λ s. has_place s k) c.in_ok-places.ensures
    ∙ sym (set-read new.sets.items c.in_ok-number.number c.index.result.now c.in_ok-number.ensures.number.inside c.index.ensures k)
    ∙ c.in_ok-number.ensures.number.tells k m there
