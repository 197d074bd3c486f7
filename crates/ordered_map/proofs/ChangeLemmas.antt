-- What changes of values keep, what is found after one, and the entries on both sides of one that changes.
use Rattle.std.proofs.Common.{◌≡◌, ℕ, Bool, true, false, cond, ◌&&◌, List, [], ◌∷◌, ◌++◌, length, map, sym, ap, ◌∙◌, refl, arith}
use Rattle.std.specs.Prelude.{Option, Some, None, unwrap_or}
use Rattle.std.specs.Cmp.{IsTotalOrder, alike_right, eq_by_cmp_equiv}
use Rattle.std.specs.Option.{option_map, option_or}
use Rattle.std.specs.Ordering.{eq_by_cmp, is_eq, is_lt}
use Rattle.std.specs.declared.cmp.Ordering.{Ordering}
use Rattle.std.specs.declared.cmp.Ordering.TheVariants.{Less, Equal, Greater}
use Rattle.std.specs.FinMap.Entries.{find, put, is_sorted, below_all}
use Rattle.std.proofs.lemmas.Bool.{and_parts}
use Rattle.std.proofs.lemmas.List.{length-map, map-append}
use Rattle.ordered_map.specs.Changes.{with_values, changed_at, changed_or_given, changed_or_put}
use Rattle.ordered_map.specs.Entries.{put_given}
use Rattle.ordered_map.specs.Kept.{IsKept}
use Rattle.ordered_map.specs.Runs.{IsPast}
use Rattle.ordered_map.proofs.SplitLemmas.{less, past_smaller, past_tied, below_smaller, below_tied, sorted_back, here_at}

module _ {K V : Type 0} (R : K → K → Ordering) where
  below_values : (f : K → V → V) (x : K) (es : List (K × V)) → below_all R x (with_values f es) ≡ below_all R x es
  below_values f x [] = refl
  below_values f x (e ∷ es) = ap (λ b. is_lt (R x e.0) && b) (below_values f x es)

  pub sorted_values : (f : K → V → V) (es : List (K × V)) → is_sorted R (with_values f es) ≡ is_sorted R es
  sorted_values f [] = refl
  sorted_values f (e ∷ es) = λ i. below_values f e.0 es i && sorted_values f es i

  -- the keys stay
  pub values_rise : (f : K → V → V) (es fs : List (K × V)) → is_sorted R es ≡ true → fs ≡ with_values f es → is_sorted R fs ≡ true
  values_rise f es fs rising is = ap (is_sorted R) is ∙ sorted_values f es ∙ rising

  pub values_kept : (f : K → V → V) (es fs : List (K × V)) (spare room count : ℕ) → IsKept R es spare room count → fs ≡ with_values f es → IsKept R fs spare room count
  values_kept f es fs spare room count kept is =
      let size : length fs ≡ length es = ap length is ∙ length-map es (λ (e : K × V). (e.0, f e.0 e.1)) in
      record { rising = values_rise f es fs kept.rising is; boxes = kept.boxes; counted = omega (arith, size, kept.counted); fits = kept.fits }

  -- what is found of a key once the value of one has changed
  pub find-changed : IsTotalOrder R → (q : K) (f : V → V) (u : K) (es : List (K × V)) → find R u (changed_at R q f es) ≡ cond (eq_by_cmp R u q) (option_map f (find R u es)) (find R u es)
  find-changed o q f u es = found es
    where
      equal : (r : Ordering) → is_eq r ≡ true → r ≡ Equal
      equal Less e = cc
      equal Equal e = refl
      equal Greater e = cc

      here_or_not : (b : Bool) (v : V) → ◌≡◌ {A = Option V} (Some (cond b (f v) v)) (cond b (Some (f v)) (Some v))
      here_or_not true v = refl
      here_or_not false v = refl

      found : (es : List (K × V)) → find R u (changed_at R q f es) ≡ cond (eq_by_cmp R u q) (option_map f (find R u es)) (find R u es)
      found [] = elim (eq_by_cmp R u q) as (λ b. ◌≡◌ {A = Option V} None (cond b None None)) [ true ↦ refl | false ↦ refl ]
      found (e ∷ es) =
          elim (eq_by_cmp R u e.0) as (λ b. eq_by_cmp R u e.0 ≡ b → cond b (Some (cond (eq_by_cmp R q e.0) (f e.1) e.1)) (find R u (changed_at R q f es)) ≡ cond (eq_by_cmp R u q) (option_map f (cond b (Some e.1) (find R u es))) (cond b (Some e.1) (find R u es))) [
            | true ↦ λ tie.
                let same : eq_by_cmp R q e.0 ≡ eq_by_cmp R u q = ap is_eq (sym (alike_right o u e.0 q (equal _ tie))) ∙ (eq_by_cmp_equiv o).symm q u in
                ap (λ b. Some (cond b (f e.1) e.1)) same ∙ here_or_not (eq_by_cmp R u q) e.1
            | false ↦ λ apart. found es
          ] refl

  module _ (q : K) (f : V → V) where
    abbrev one : K × V → K × V
    one e = (e.0, cond (eq_by_cmp R q e.0) (f e.1) e.1)

    pub past_stay : (l : List (K × V)) → IsPast R q l → map one l ≡ l
    past_stay [] p = refl
    past_stay (e ∷ l) p = λ i. (e.0, cond (is_eq (p.0 i)) (f e.1) e.1) ∷ past_stay l p.1 i

    pub below_stay : (m : List (K × V)) → below_all R q m ≡ true → map one m ≡ m
    below_stay [] h = refl
    below_stay (e ∷ m) h =
        let parts = and_parts (is_lt (R q e.0)) (below_all R q m) h in
        λ i. (e.0, cond (is_eq (less (R q e.0) parts.0 i)) (f e.1) e.1) ∷ below_stay m parts.1 i

    module _ (o : IsTotalOrder R) (l : List (K × V)) (e : K × V) (r : List (K × V)) (h : is_sorted R (l ++ e ∷ r) ≡ true) where
      pub changed_left : R q e.0 ≡ Less → changed_at R q f (l ++ e ∷ r) ≡ changed_at R q f l ++ e ∷ r
      changed_left low =
          let parts = and_parts (below_all R e.0 r) (is_sorted R r) (sorted_back R l (e ∷ r) h) in
          map-append one l (e ∷ r)
          ∙ (λ i. map one l ++ (e.0, cond (is_eq (low i)) (f e.1) e.1) ∷ below_stay r (below_smaller R o q e.0 r low parts.0) i)

      pub changed_here : R q e.0 ≡ Equal → changed_at R q f (l ++ e ∷ r) ≡ l ++ (e.0, f e.1) ∷ r
      changed_here tie =
          let parts = and_parts (below_all R e.0 r) (is_sorted R r) (sorted_back R l (e ∷ r) h) in
          map-append one l (e ∷ r)
          ∙ (λ i. past_stay l (past_tied R o q l e r h tie) i ++ (e.0, cond (is_eq (tie i)) (f e.1) e.1) ∷ below_stay r (below_tied R o q e.0 r tie parts.0) i)

      pub changed_right : R q e.0 ≡ Greater → changed_at R q f (l ++ e ∷ r) ≡ l ++ e ∷ changed_at R q f r
      changed_right more =
          map-append one l (e ∷ r)
          ∙ (λ i. past_stay l (past_smaller R o q l e r h more) i ++ (e.0, cond (is_eq (more i)) (f e.1) e.1) ∷ map one r)

  -- ---- a value that changes, or one that is given to a key without one

  module _ (q : K) (f : V → V) where
    -- one that is given is put where there is none
    pub given_some : (v : V) (es : List (K × V)) → changed_or_given R q f (Some v) es ≡ changed_or_put R q f v es
    given_some v es = elim (find R q es) as (λ o. put_given R q (option_or (option_map f o) (Some v)) es ≡ put R q (unwrap_or (option_map f o) v) es) [ None ↦ refl | Some w ↦ refl ]

    module _ (o : IsTotalOrder R) (given : Option V) (l : List (K × V)) (e : K × V) (r : List (K × V)) (h : is_sorted R (l ++ e ∷ r) ≡ true) where
      pub given_here : R q e.0 ≡ Equal → changed_or_given R q f given (l ++ e ∷ r) ≡ l ++ (e.0, f e.1) ∷ r
      given_here tie =
          let split = here_at R o q l e r h tie in
          ap (λ s. put_given R q (option_or (option_map f s) given) (l ++ e ∷ r)) split.find_is ∙ split.put_is (f e.1)
