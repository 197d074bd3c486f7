-- The leading part of a path, and two paths as one.
use Rattle.std.proofs.Common.{◌≡◌, ℕ, ◌-◌, Bool, true, false, cond, leb, List, [], ◌∷◌, ◌++◌, take, refl, ap, ◌∙◌}
use Rattle.std.specs.Prelude.{is_some}
use Rattle.net_types.specs.Paths.{asns, hops_of, joined, leading, whole_path}
use Rattle.net_types.specs.UpdateValue.{Said, said_path}
use Rattle.net_types.specs.declared.route.Segment.{Segment}
use Rattle.net_types.specs.declared.route.Segment.TheVariants.{Set, Sequence}
use Rattle.net_types.proofs.FindLemmas.{is_some-map}

-- what is taken of a path whose first segment is known
pub leading_step : (k : ℕ) (s : Segment) (path : List Segment)
    → leading k (s ∷ path) ≡ cond (leb (hops_of s) k) (s ∷ leading (k - hops_of s) path) (cond (leb 1 k) (Sequence (take k (asns s)) ∷ []) [])
leading_step k (Set ns) path = by (leb 1 k)
  where
    by : (b : Bool) → cond b (Set ns ∷ leading (k - 1) path) [] ≡ cond b (Set ns ∷ leading (k - 1) path) (cond b (Sequence (take k ns) ∷ []) [])
    by true = refl
    by false = refl
leading_step k (Sequence ns) path = refl

pub joined_more : (s t : Segment) (front back : List Segment) → joined (s ∷ t ∷ front) back ≡ s ∷ joined (t ∷ front) back
joined_more (Set ns) t front back = refl
joined_more (Sequence ns) t front back = refl

-- only the last segment meets the other path
pub joined_last : (front : List Segment) (s : Segment) (back : List Segment) → joined (front ++ s ∷ []) back ≡ front ++ joined (s ∷ []) back
joined_last [] s back = refl
joined_last (a ∷ []) s back = joined_more a s [] back
joined_last (a ∷ b ∷ front) s back = joined_more a b (front ++ s ∷ []) back ∙ ap (λ (ss : List Segment). a ∷ ss) (joined_last (b ∷ front) s back)

-- there is a path where there is an AS_PATH
pub path_there : (s : Said) → is_some (said_path s) ≡ is_some s.path
path_there s = is_some-map (λ path. whole_path path s.wide) s.path
