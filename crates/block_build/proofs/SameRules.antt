-- Rules that pass as the same are equal.
use Rattle.std.proofs.Common.{◌≡◌, true, ◌&&◌, refl}
use Rattle.std.specs.Cmp.Lexicographic.{pointwise, pointwise_decides}
use Rattle.std.specs.Ordering.{eq_by_cmp}
use Rattle.std.proofs.lemmas.Bool.{and_from, and_parts}
use Rattle.events.specs.Sound.{same_rule}
use Rattle.net_types.proofs.ActionOrder.{actions_test}
use Rattle.net_types.proofs.CubeLemmas.{cubes_antisym, within_refl}
use Rattle.net_types.proofs.EqualLemmas.{IsEqualityTest, from_itself}
use Rattle.net_types.specs.Actions.{action_cmp}
use Rattle.net_types.specs.Cubes.{lies_within_cube}
use Rattle.net_types.specs.declared.rule.Rule.{Rule}

rule_right : (a b : Rule) → same_rule a b ≡ true → a ≡ b
rule_right a b e =
    let both = and_parts (lies_within_cube a.cube b.cube && lies_within_cube b.cube a.cube) (pointwise (eq_by_cmp action_cmp) a.actions b.actions) e in
    let cubes = and_parts (lies_within_cube a.cube b.cube) (lies_within_cube b.cube a.cube) both.0 in
    let cube = cubes_antisym a.cube b.cube cubes.0 cubes.1 in
    let actions = (actions_test a.actions b.actions).0 both.1 in
    λ i. record { cube = cube i; actions = actions i }

rule_itself : (a : Rule) → same_rule a a ≡ true
rule_itself a = and_from _ _ (and_from _ _ (within_refl a.cube) (within_refl a.cube)) ((actions_test a.actions a.actions).1 refl)

pub rules_test : IsEqualityTest (pointwise same_rule)
rules_test = pointwise_decides (from_itself same_rule rule_right rule_itself)
