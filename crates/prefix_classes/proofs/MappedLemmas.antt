-- Entries with the same tags in the same order, each with a value that is made of the other's.
use Rattle.std.proofs.Common.{◌≡◌, true, false, cond, ◌&&◌, List, [], ◌∷◌, map, ap, refl}
use Rattle.std.specs.Prelude.{Some}
use Rattle.std.specs.FinMap.Entries.{find, is_sorted, below_all}
use Rattle.std.specs.Option.{option_map}
use Rattle.std.specs.Ordering.{eq_by_cmp, is_lt}
use Rattle.net_types.specs.Keys.{tag_cmp}
use Rattle.net_types.specs.declared.address.Tag.{Tag}

module _ {X Y : Type 0} (f : X → Y) where
  abbrev pub mapped : List (Tag × X) → List (Tag × Y)
  mapped es = map (λ e. (e.0, f e.1)) es

  pub find-mapped : (q : Tag) (es : List (Tag × X)) → find tag_cmp q (mapped es) ≡ option_map f (find tag_cmp q es)
  find-mapped q [] = refl
  find-mapped q (e ∷ es) = elim (eq_by_cmp tag_cmp q e.0) as (λ b. cond b (Some (f e.1)) (find tag_cmp q (mapped es)) ≡ option_map f (cond b (Some e.1) (find tag_cmp q es))) [ true ↦ refl | false ↦ find-mapped q es ]

  below-mapped : (x : Tag) (es : List (Tag × X)) → below_all tag_cmp x (mapped es) ≡ below_all tag_cmp x es
  below-mapped x [] = refl
  below-mapped x (e ∷ es) = ap (λ b. is_lt (tag_cmp x e.0) && b) (below-mapped x es)

  pub sorted-mapped : (es : List (Tag × X)) → is_sorted tag_cmp (mapped es) ≡ is_sorted tag_cmp es
  sorted-mapped [] = refl
  sorted-mapped (e ∷ es) = λ i. below-mapped e.0 es i && sorted-mapped es i
