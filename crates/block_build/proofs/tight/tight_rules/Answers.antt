-- One more rule is kept or left out.
use Rattle.std.proofs.Common.{◌≡◌, ℕ, ◌+◌, ◌<◌, Bool, true, false, List, [], ◌∷◌, ◌++◌, drop, length, get_or, ap, sym, ◌∙◌, append_assoc}
use Rattle.std.specs.Prelude.{if◌then◌else◌}
use Rattle.std.proofs.lemmas.List.{drop_more, map-append}
use Rattle.events.specs.Sound.{cubes_of}
use Rattle.net_types.specs.declared.cube.Cube.{Cube}
use Rattle.net_types.specs.declared.rule.Rule.{Rule}
use Rattle.block_build.specs.Tight.{is_inside, sifted}
use Rattle.block_build.proofs.tight.tight_rules.Goals as goal

sifted_next : (old : List Rule) (i : ℕ) (next : Rule) (rules new whole : List Rule) → i < length old → next ≡ get_or old i next
    → rules ++ sifted (cubes_of rules) (drop i old) ≡ whole → new ≡ (if is_inside (cubes_of rules) next.cube then rules else rules ++ next ∷ [])
    → new ++ sifted (cubes_of new) (drop (i + 1) old) ≡ whole
sifted_next old i next rules new whole less is left put = of (is_inside (cubes_of rules) next.cube) put (ap (λ (rs : List Rule). rules ++ sifted (cubes_of rules) rs) (sym step) ∙ left)
  where
    step : drop i old ≡ next ∷ drop (i + 1) old
    step = drop_more old i next less ∙ ap (λ (r : Rule). r ∷ drop (i + 1) old) (sym is)

    of : (b : Bool) → new ≡ (if b then rules else rules ++ next ∷ []) → rules ++ (if b then sifted (cubes_of rules) (drop (i + 1) old) else next ∷ sifted (cubes_of rules ++ next.cube ∷ []) (drop (i + 1) old)) ≡ whole
        → new ++ sifted (cubes_of new) (drop (i + 1) old) ≡ whole
    of true e h = ap (λ (n : List Rule). n ++ sifted (cubes_of n) (drop (i + 1) old)) e ∙ h
    of false e h =
        ap (λ (n : List Rule). n ++ sifted (cubes_of n) (drop (i + 1) old)) e
        ∙ append_assoc rules (next ∷ []) (sifted (cubes_of (rules ++ next ∷ [])) (drop (i + 1) old))
        ∙ ap (λ (cs : List Cube). rules ++ next ∷ sifted cs (drop (i + 1) old)) (map-append (λ (r : Rule). r.cube) rules (next ∷ []))
        ∙ h

pub loop-next-preserved : goal.loop-next-preserved
loop-next-preserved c = sifted_next _ _ _ _ _ _ c.loop-next-test.true c.next-item.is c.loop-next.invariant c.in_ok-push_outside.ensures
