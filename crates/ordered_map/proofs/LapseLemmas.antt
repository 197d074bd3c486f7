-- Entries with a value for a key or without one, on both sides of an entry, and what holds of a map's parts then.
use Rattle.std.proofs.Common.{◌≡◌, ℕ, ◌-◌, ◌≤◌, Bool, true, false, cond, List, ◌∷◌, ◌++◌, ap, ◌∙◌, refl, arith}
use Rattle.std.specs.Prelude.{Option, Some, None, is_some}
use Rattle.std.specs.Cmp.{IsTotalOrder}
use Rattle.std.specs.Option.{option_map}
use Rattle.std.specs.declared.cmp.Ordering.{Ordering}
use Rattle.std.specs.declared.cmp.Ordering.TheVariants.{Less, Equal, Greater}
use Rattle.std.specs.FinMap.Entries.{find, is_sorted, below_all}
use Rattle.ordered_map.specs.Kept.{IsKept}
use Rattle.ordered_map.specs.Lapsed.{changed_or_without, lapsing, lasting, with_value}
use Rattle.ordered_map.proofs.CountLemmas.{put_known, put_rises, took_known, took_none, without_rises}
use Rattle.ordered_map.specs.Runs.{IsPast}
use Rattle.ordered_map.proofs.SplitLemmas.{IsLeft, IsRight, IsBeyond, IsBetween, left_of, here_at, right_of, beyond_of, between_of}

module _ {K V : Type 0} (R : K → K → Ordering) (o : IsTotalOrder R) (q : K) (f : V → V) (lapsed : V → Bool) where
  module _ (l : List (K × V)) (e : K × V) (r : List (K × V)) (h : is_sorted R (l ++ e ∷ r) ≡ true) where
    pub lapsed_left : R q e.0 ≡ Less → changed_or_without R q f lapsed (l ++ e ∷ r) ≡ changed_or_without R q f lapsed l ++ e ∷ r
    lapsed_left low =
        let split = left_of R o q l e r h low in
        ap (λ s. with_value R q (lasting lapsed (option_map f s)) (l ++ e ∷ r)) split.find_is ∙ by split (lasting lapsed (option_map f (find R q l)))
      where
        by : IsLeft R q l e r → (now : Option V) → with_value R q now (l ++ e ∷ r) ≡ with_value R q now l ++ e ∷ r
        by split None = split.without_is
        by split (Some v) = split.put_is (Some v)

    pub lapsed_here : R q e.0 ≡ Equal → lapsed (f e.1) ≡ true → changed_or_without R q f lapsed (l ++ e ∷ r) ≡ l ++ r
    lapsed_here tie is =
        let split = here_at R o q l e r h tie in
        ap (λ s. with_value R q (lasting lapsed (option_map f s)) (l ++ e ∷ r)) split.find_is
        ∙ ap (λ b. with_value R q (cond b None (Some (f e.1))) (l ++ e ∷ r)) is ∙ split.without_is

    pub lasting_here : R q e.0 ≡ Equal → lapsed (f e.1) ≡ false → changed_or_without R q f lapsed (l ++ e ∷ r) ≡ l ++ (e.0, f e.1) ∷ r
    lasting_here tie is =
        let split = here_at R o q l e r h tie in
        ap (λ s. with_value R q (lasting lapsed (option_map f s)) (l ++ e ∷ r)) split.find_is
        ∙ ap (λ b. with_value R q (cond b None (Some (f e.1))) (l ++ e ∷ r)) is ∙ split.put_is (f e.1)

    pub lapsed_right : R q e.0 ≡ Greater → changed_or_without R q f lapsed (l ++ e ∷ r) ≡ l ++ e ∷ changed_or_without R q f lapsed r
    lapsed_right more =
        let split = right_of R o q l e r h more in
        ap (λ s. with_value R q (lasting lapsed (option_map f s)) (l ++ e ∷ r)) split.find_is ∙ by split (lasting lapsed (option_map f (find R q r)))
      where
        by : IsRight R q l e r → (now : Option V) → with_value R q now (l ++ e ∷ r) ≡ l ++ e ∷ with_value R q now r
        by split None = split.without_is
        by split (Some v) = split.put_is (Some v)

  -- the same where some others stand right of the entry, and more past them
  module _ (l : List (K × V)) (e : K × V) (m r : List (K × V)) (h : is_sorted R (l ++ e ∷ (m ++ r)) ≡ true) (more : R q e.0 ≡ Greater) where
    pub lapsed_beyond : IsPast R q m → changed_or_without R q f lapsed (l ++ e ∷ (m ++ r)) ≡ l ++ e ∷ (m ++ changed_or_without R q f lapsed r)
    lapsed_beyond past =
        let split = beyond_of R o q l e m r h more past in
        ap (λ s. with_value R q (lasting lapsed (option_map f s)) (l ++ e ∷ (m ++ r))) split.find_is ∙ by split (lasting lapsed (option_map f (find R q r)))
      where
        by : IsBeyond R q l e m r → (now : Option V) → with_value R q now (l ++ e ∷ (m ++ r)) ≡ l ++ e ∷ (m ++ with_value R q now r)
        by split None = split.without_is
        by split (Some v) = split.put_is (Some v)

    pub lapsed_between : (is_sorted R (m ++ r) ≡ true → below_all R q r ≡ true) → changed_or_without R q f lapsed (l ++ e ∷ (m ++ r)) ≡ l ++ e ∷ (changed_or_without R q f lapsed m ++ r)
    lapsed_between within =
        let split = between_of R o q l e m r h more within in
        ap (λ s. with_value R q (lasting lapsed (option_map f s)) (l ++ e ∷ (m ++ r))) split.find_is ∙ by split (lasting lapsed (option_map f (find R q m)))
      where
        by : IsBetween R q l e m r → (now : Option V) → with_value R q now (l ++ e ∷ (m ++ r)) ≡ l ++ e ∷ (with_value R q now m ++ r)
        by split None = split.without_is
        by split (Some v) = split.put_is (Some v)

  module _ (es fs : List (K × V)) (is : fs ≡ changed_or_without R q f lapsed es) where
    pub lapsed_rises : is_sorted R es ≡ true → is_sorted R fs ≡ true
    lapsed_rises rising = by (lasting lapsed (option_map f (find R q es))) is
      where
        by : (now : Option V) → fs ≡ with_value R q now es → is_sorted R fs ≡ true
        by None is = without_rises R o es fs q rising is
        by (Some v) is = put_rises R o es fs q v rising is

    module _ (spare left room count : ℕ) (kept : IsKept R es spare room count) (more : spare ≤ left) where
      pub lapsed_took : is_some (lapsing lapsed (option_map f (find R q es))) ≡ true → IsKept R fs left room (count - 1)
      lapsed_took some = by (find R q es) refl is some
        where
          at : (v : V) (b : Bool) → find R q es ≡ Some v → fs ≡ with_value R q (cond b None (Some (f v))) es → is_some (cond b (Some (f v)) None) ≡ true → IsKept R fs left room (count - 1)
          at v true was is some = took_known R o es fs q spare left room count kept is (ap is_some was) more
          at v false was is some = absurd (cc)

          by : (now : Option V) → find R q es ≡ now → fs ≡ with_value R q (lasting lapsed (option_map f now)) es → is_some (lapsing lapsed (option_map f now)) ≡ true → IsKept R fs left room (count - 1)
          by None was is some = absurd (cc)
          by (Some v) was is some = at v (lapsed (f v)) was is some

      pub lapsed_none : is_some (lapsing lapsed (option_map f (find R q es))) ≡ false → IsKept R fs left room count
      lapsed_none none = by (find R q es) refl is none
        where
          at : (v : V) (b : Bool) → find R q es ≡ Some v → fs ≡ with_value R q (cond b None (Some (f v))) es → is_some (cond b (Some (f v)) None) ≡ false → IsKept R fs left room count
          at v true was is none = absurd (cc)
          at v false was is none = put_known R o es fs q (f v) spare left room count kept is (ap is_some was) (omega (arith, more))

          by : (now : Option V) → find R q es ≡ now → fs ≡ with_value R q (lasting lapsed (option_map f now)) es → is_some (lapsing lapsed (option_map f now)) ≡ false → IsKept R fs left room count
          by None was is none = took_none R o es fs q spare left room count kept is (ap is_some was) more
          by (Some v) was is none = at v (lapsed (f v)) was is none
