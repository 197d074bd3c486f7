-- When rules are tight, and that tight rules are their own tight form.
use Rattle.std.proofs.Common.{◌≡◌, ℕ, suc, ◌+◌, ◌-◌, ◌<◌, Bool, true, false, List, [], ◌∷◌, length, length-drop, take, drop, get_or, drop-cons, refl, inl, inr, sym, ap, subst, ◌∙◌, arith}
use Rattle.std.proofs.lemmas.List.{take_all}
use Rattle.std.proofs.lemmas.Bool.{or_parts, or_cases, false≢true}
use Rattle.events.specs.Sound.{IsTight}
use Rattle.net_types.specs.Cubes.{lies_within_cube}
use Rattle.net_types.specs.Sets.{Member}
use Rattle.net_types.specs.declared.cube.Cube.{Cube}
use Rattle.net_types.specs.declared.rule.Rule.{Rule}
use Rattle.block_build.specs.Tight.{IsTightForm}
use Rattle.recompile.specs.Tight.{has_within}

pub own_form : (rules : List Rule) → IsTight rules → IsTightForm rules rules
own_form rules tight = record {
  tight = tight;
  fewer = omega arith;
  first = λ h. refl;
  among = λ rule m. m;
  differ = λ different. different;
}

none_within : (c : Cube) (rules : List Rule) → has_within c rules ≡ false → (later : Rule) → Member later rules → lies_within_cube later.cube c ≡ false
none_within c [] none later m = elim m [ ]
none_within c (r ∷ rules) none later m =
    let parts = or_parts (lies_within_cube r.cube c) (has_within c rules) none in
    elim m [
      | inl same ↦ ap (λ (x : Rule). lies_within_cube x.cube c) same ∙ parts.0
      | inr rest ↦ none_within c rules parts.1 later rest
    ]

one_within : (c : Cube) (rules : List Rule) → has_within c rules ≡ true → ((later : Rule) → Member later rules → lies_within_cube later.cube c ≡ false) → ⊥
one_within c [] some none = false≢true some
one_within c (r ∷ rules) some none = elim (or_cases (lies_within_cube r.cube c) (has_within c rules) some) [
  | inl here ↦ false≢true (sym (none r (inl refl)) ∙ here)
  | inr later ↦ one_within c rules later (λ x m. none x (inr m))
]

-- the rules from one on are tight exactly where all are
pub record TellsAll (rules left : List Rule) : Type 0 where
  pub so_all : IsTight left → IsTight rules
  pub so_left : IsTight rules → IsTight left

module _ (rules : List Rule) (i : ℕ) (r : Rule) (within : i < length rules) (item : r ≡ get_or rules i r) where
  here : drop i rules ≡ r ∷ drop (i + 1) rules
  here =
      let next : suc i ≡ i + 1 = omega arith in
      drop-cons rules i r within ∙ ap (λ k. get_or rules i r ∷ drop k rules) next ∙ ap (λ x. x ∷ drop (i + 1) rules) (sym item)

  -- the later rules as a slice
  whole : take (length rules - (i + 1)) (drop (i + 1) rules) ≡ drop (i + 1) rules
  whole = let long : length (drop (i + 1) rules) ≡ length rules - (i + 1) = length-drop (i + 1) rules in take_all (length rules - (i + 1)) (drop (i + 1) rules) (omega (arith, long))

  pub later_is : (b : Bool) → has_within (get_or rules i r).cube (take (length rules - (i + 1)) (drop (i + 1) rules)) ≡ b → has_within r.cube (drop (i + 1) rules) ≡ b
  later_is b e = (λ j. has_within (item j).cube (sym whole j)) ∙ e

  -- where no later rule lies within the next one, the others tell
  pub tells_on : has_within r.cube (drop (i + 1) rules) ≡ false → TellsAll rules (drop i rules) → TellsAll rules (drop (i + 1) rules)
  tells_on none tells = record {
    so_all = λ tight. tells.so_all (subst IsTight (sym here) (none_within r.cube (drop (i + 1) rules) none, tight));
    so_left = λ tight. (subst IsTight here (tells.so_left tight)).1;
  }

  -- where one does, they aren't tight
  pub tells_none : has_within r.cube (drop (i + 1) rules) ≡ true → TellsAll rules (drop i rules) → ¬ IsTight rules
  tells_none some tells = λ tight. one_within r.cube (drop (i + 1) rules) some (subst IsTight here (tells.so_left tight)).0
