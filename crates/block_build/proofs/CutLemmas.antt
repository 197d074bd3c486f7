-- Cubes to which one of their meets comes.
use Rattle.std.proofs.Common.{List, [], ◌∷◌, ◌++◌, inl, inr, sym, subst}
use Rattle.net_types.proofs.MeetLemmas.{IsMeet-member, IsMeet-wider}
use Rattle.net_types.proofs.SetLemmas
use Rattle.net_types.specs.Meets.{IsMeet}
use Rattle.net_types.specs.Sets.{Member}
use Rattle.net_types.specs.declared.cube.Cube.{Cube}

-- a meet of some cubes and of one of their meets is one of these
pub meets_one : (atoms : List Cube) (atom x : Cube) → IsMeet atoms atom → IsMeet (atoms ++ atom ∷ []) x → IsMeet atoms x
meets_one atoms atom x is more = IsMeet-wider (atoms ++ atom ∷ []) atoms each x more
  where
    each : (a : Cube) → Member a (atoms ++ atom ∷ []) → IsMeet atoms a
    each a k = elim (SetLemmas.Member-append_cases atoms (atom ∷ []) a k) [
      | inl old ↦ IsMeet-member atoms a old
      | inr new ↦ elim new [ inl e ↦ subst (IsMeet atoms) (sym e) is | inr none ↦ elim none [ ] ]
    ]
