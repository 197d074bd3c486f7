-- A cube that was found, as the set of the headers that it is to have.
use Rattle.std.proofs.Common.{◌≡◌, Bool, Option, Some, None, IfSome, MatchOption, IsTrue, inl, inr, sym, ◌∙◌}
use Rattle.std.proofs.lemmas.Bool.{cases_Bool, false≢true}
use Rattle.net_types.specs.declared.headers.Headers.{Headers}
use Rattle.net_types.specs.declared.cube.Cube.{Cube}
use Rattle.net_types.specs.Headers.{IsValid}
use Rattle.net_types.specs.Cubes.{has, lies_within_cube, IsInRange}
use Rattle.net_types.proofs.CubeLemmas.{has_option, has-within, cubes_apart, witness}

-- a cube that is found is that of the headers with a test, and none is found where no headers pass
module _ (test : Headers → Bool) where
  pub none_exactly : (found : Option Cube) → IfSome found IsInRange → ((h : Headers) → has_option found h ≡ test h) → MatchOption found ((h : Headers) → IsTrue (test h) → ⊥) (λ c. (h : Headers) × IsValid h × IsTrue (has c h))
  none_exactly None r same = λ h k. false≢true (same h ∙ k)
  none_exactly (Some c) r same = let w = witness c in (w.headers, w.valid r, w.inside)

  pub found_exactly : (found : Option Cube) → ((h : Headers) → has_option found h ≡ test h) → IfSome found (λ c. (h : Headers) → has c h ≡ test h)
  found_exactly None same = tt
  found_exactly (Some c) same = same

-- within is to be a subset, of the headers that are valid
pub subset_forth : (a b : Cube) (r : Bool) → r ≡ lies_within_cube a b → IsTrue r → (h : Headers) → IsValid h → IsTrue (has a h) → IsTrue (has b h)
subset_forth a b r e t h v k = has-within a b h (sym e ∙ t) k

pub subset_back : (a b : Cube) (r : Bool) → r ≡ lies_within_cube a b → IsInRange a → ((h : Headers) → IsValid h → IsTrue (has a h) → IsTrue (has b h)) → IsTrue r
subset_back a b r e range subset = elim (cases_Bool (lies_within_cube a b)) [
  | inl inside ↦ e ∙ inside
  | inr outside ↦ let s = cubes_apart a b outside in absurd (false≢true (sym s.outside ∙ subset s.headers (s.valid range) s.inside))
]
