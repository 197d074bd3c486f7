-- The first pair, and the first greater one, among entries.
use Rattle.std.proofs.Common.{◌≡◌, true, false, cond, List, [], ◌∷◌, map, refl}
use Rattle.std.specs.Prelude.{Option, None, Some, find}
use Rattle.std.specs.Borrow.{Bor}
use Rattle.std.specs.Map.Iter.{deref_pair}
use Rattle.std.specs.Option.{option_map}
use Rattle.std.specs.Ordering.{is_lt}
use Rattle.std.specs.declared.cmp.Ordering.{Ordering}
use Rattle.ordered_map.specs.Entries.{above, head_of}

module _ {K V : Type 0} where
  abbrev pub key : K × V → K
  key e = e.0

  -- the key of an entry that is lent
  pub key_lent : (o : Option (Bor K × Bor V)) → option_map (λ (e : Bor K × Bor V). e.0.now) o ≡ option_map key (option_map deref_pair o)
  key_lent None = refl
  key_lent (Some e) = refl

  pub first_is : (es : List (K × V)) → option_map key (head_of es) ≡ find (λ k. true) (map key es)
  first_is [] = refl
  first_is (e ∷ es) = refl

  pub next_is : (R : K → K → Ordering) (q : K) (es : List (K × V)) → option_map key (head_of (above R q es)) ≡ find (λ k. is_lt (R q k)) (map key es)
  next_is R q [] = refl
  next_is R q (e ∷ es) =
      elim (is_lt (R q e.0)) as (λ b. option_map key (head_of (cond b (e ∷ above R q es) (above R q es))) ≡ cond b (Some e.0) (find (λ k. is_lt (R q k)) (map key es))) [
        | true ↦ refl
        | false ↦ next_is R q es
      ]
