-- Keys that rise, parted at another key.
use Rattle.std.specs.Prelude.{◌≡◌, Bool, true, false, List, [], ◌∷◌, ◌++◌, map, IsTrue}
use Rattle.std.specs.List.{AllByRecursion}
use Rattle.std.specs.FinMap.Entries.{is_sorted}
use Rattle.std.specs.declared.cmp.Ordering.{Ordering}
use Rattle.std.specs.declared.cmp.Ordering.TheVariants.{Less, Equal, Greater}

-- keys as entries without values
abbrev pub keyed : {K : Type 0} → List K → List (K × Unit {0})
keyed ks = map (λ k. (k, tt)) ks

-- the key itself, where it is among them
abbrev pub IsAmong : {K : Type 0} → (K → K → Ordering) → K → Bool → List K → Type 0
IsAmong {K} R key true ks = (k : K) × (ks ≡ k ∷ []) × (R k key ≡ Equal)
IsAmong R key false ks = ks ≡ []

-- the lesser ones, the key itself where it is among them, and the greater ones
pub record IsParted {K : Type 0} (R : K → K → Ordering) (key : K) (keys lesser : List K) (among : Bool) (greater : List K) : Type 0 where
  pub same : List K
  pub whole : keys ≡ lesser ++ (same ++ greater)
  pub low : AllByRecursion (λ k. R k key ≡ Less) lesser
  pub tied : IsAmong R key among same
  pub high : AllByRecursion (λ k. R k key ≡ Greater) greater
  pub low_rise : IsTrue (is_sorted R (keyed lesser))
  pub high_rise : IsTrue (is_sorted R (keyed greater))
