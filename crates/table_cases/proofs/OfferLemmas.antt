-- Offers of participants that are declared.
use Rattle.std.proofs.Common.{◌≡◌, ℕ, ◌<◌, true, List, [], ◌∷◌, ap, ◌∙◌, inl, inr}
use Rattle.std.specs.List.{list_all}
use Rattle.std.specs.Prelude.{nat_lt}
use Rattle.std.proofs.lemmas.Bool.{and_parts, ltb-true}
use Rattle.net_types.specs.Sets.{Member}
use Rattle.net_types.specs.declared.route.Offer.{Offer}

-- each of them is below the number
pub each_below : (count : ℕ) (offers : List Offer) → list_all (λ (o : Offer). nat_lt o.exporter.0 count) offers ≡ true → (o : Offer) → Member o offers → o.exporter.0 < count
each_below count [] all o m = absurd (elim m [ ])
each_below count (x ∷ xs) all o (inl is) =
    ltb-true o.exporter.0 count (ap (λ (y : Offer). nat_lt y.exporter.0 count) is ∙ (and_parts (nat_lt x.exporter.0 count) (list_all (λ (y : Offer). nat_lt y.exporter.0 count) xs) all).0)
each_below count (x ∷ xs) all o (inr m) = each_below count xs (and_parts (nat_lt x.exporter.0 count) (list_all (λ (y : Offer). nat_lt y.exporter.0 count) xs) all).1 o m
