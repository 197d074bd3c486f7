-- What is left of entries that rise, after the first of those above a key.
use Rattle.std.proofs.Common.{◌≡◌, true, false, cond, List, [], ◌∷◌, ◌++◌, sym, ap, subst, ◌∙◌, refl}
use Rattle.std.specs.Prelude.{Some, None, Option}
use Rattle.std.specs.Borrow.{Bor}
use Rattle.std.specs.Cmp.{IsTotalOrder}
use Rattle.std.specs.Ordering.{is_lt, ordering_reverse}
use Rattle.std.specs.declared.cmp.Ordering.{Ordering}
use Rattle.std.specs.declared.cmp.Ordering.TheVariants.{Less, Equal, Greater}
use Rattle.std.specs.FinMap.Entries.{is_sorted, below_all}
use Rattle.std.proofs.lemmas.Bool.{and_from, and_parts}
use Rattle.std.proofs.lemmas.Option.{same_Some}
use Rattle.ordered_map.specs.Entries.{above, first_or, head_of, left_after}
use Rattle.ordered_map.proofs.PutLemmas.{IsForked}
use Rattle.ordered_map.proofs.SplitLemmas.{less, turned, above_before, below_smaller, first_of_split, left_of, here_at, right_of}

not_below_itself : (r : Ordering) → r ≡ ordering_reverse r → is_lt r ≡ false
not_below_itself Less e = cc
not_below_itself Equal e = refl
not_below_itself Greater e = refl

module _ {K V : Type 0} (R : K → K → Ordering) (o : IsTotalOrder R) where
  below_above : (x q : K) (es : List (K × V)) → below_all R x es ≡ true → below_all R x (above R q es) ≡ true
  below_above x q [] h = refl
  below_above x q (e ∷ es) h =
      let parts = and_parts (is_lt (R x e.0)) (below_all R x es) h in
      let rest = below_above x q es parts.1 in
      elim (is_lt (R q e.0)) as (λ b. below_all R x (cond b (e ∷ above R q es) (above R q es)) ≡ true) [ true ↦ and_from _ _ parts.0 rest | false ↦ rest ]

  first_above : (x : K) (es : List (K × V)) (e : K × V) → below_all R x es ≡ true → head_of es ≡ Some e → R x e.0 ≡ Less
  first_above x [] e h is = cc
  first_above x (d ∷ es) e h is = subst (λ f. R x f.0 ≡ Less) (same_Some d e is) (less _ (and_parts (is_lt (R x d.0)) (below_all R x es) h).0)

  -- nothing of what follows an entry is lost above its key
  above_first : (e : K × V) (es : List (K × V)) → below_all R e.0 es ≡ true → above R e.0 (e ∷ es) ≡ es
  above_first e es h =
      ap (λ b. cond b (e ∷ above R e.0 es) (above R e.0 es)) (not_below_itself (R e.0 e.0) (o.antisymm e.0 e.0)) ∙ above_before R e.0 [] es h

  pub after_all : (es : List (K × V)) (e : K × V) → is_sorted R es ≡ true → head_of es ≡ Some e → es ≡ e ∷ above R e.0 es
  after_all [] e rising is = cc
  after_all (d ∷ es) e rising is =
      let same = same_Some d e is in
      let parts = and_parts (below_all R d.0 es) (is_sorted R es) rising in
      subst (λ f. d ∷ es ≡ f ∷ above R f.0 (d ∷ es)) same (ap (λ ds. d ∷ ds) (sym (above_first d es parts.0)))

  pub after_above : (q : K) (es : List (K × V)) (e : K × V) → is_sorted R es ≡ true → head_of (above R q es) ≡ Some e → above R q es ≡ e ∷ above R e.0 es
  after_above q [] e rising is = cc
  after_above q (d ∷ es) e rising is =
      let parts = and_parts (below_all R d.0 es) (is_sorted R es) rising in
      elim (is_lt (R q d.0)) as (λ b. is_lt (R q d.0) ≡ b → head_of (cond b (d ∷ above R q es) (above R q es)) ≡ Some e → cond b (d ∷ above R q es) (above R q es) ≡ e ∷ above R e.0 (d ∷ es)) [
        | true ↦ λ low first.
            let same = same_Some d e first in
            let below = below_smaller R o q d.0 es (less _ low) parts.0 in
            subst (λ f. d ∷ above R q es ≡ f ∷ above R f.0 (d ∷ es)) same (ap (λ ds. d ∷ ds) (above_before R q [] es below ∙ sym (above_first d es parts.0)))
        | false ↦ λ high first.
            let greater : R e.0 d.0 ≡ Greater = turned o d.0 e.0 Less (first_above d.0 (above R q es) e (below_above d.0 q es parts.0) first) in
            after_above q es e parts.1 first ∙ ap (λ r. e ∷ cond (is_lt r) (d ∷ above R e.0 es) (above R e.0 es)) (sym greater)
      ] refl is

  pub after_left : (last : Option (Bor K)) (es : List (K × V)) (e : K × V) → is_sorted R es ≡ true → head_of (left_after R last es) ≡ Some e → left_after R last es ≡ e ∷ above R e.0 es
  after_left None es e rising is = after_all es e rising is
  after_left (Some last) es e rising is = after_above last.now es e rising is

-- ---- past the entries of a box, from left to right

module _ {K V : Type 0} (R : K → K → Ordering) (q : K) where
  module _ (o : IsTotalOrder R) {es l : List (K × V)} {e : K × V} {m r : List (K × V)} (forked : IsForked R es l e m r) where
    parted : is_sorted R (l ++ e ∷ (m ++ r)) ≡ true
    parted = ap (is_sorted R) (sym forked.whole) ∙ forked.rising

    pub rising_before : is_lt (R q e.0) ≡ true → is_sorted R l ≡ true
    rising_before low = (left_of R o q l e (m ++ r) parted (less _ low)).rising

    -- the entry itself is the best so far, where the key is smaller
    pub best_before : is_lt (R q e.0) ≡ true → (best : Option (K × V)) → first_or (head_of (above R q es)) best ≡ first_or (head_of (above R q l)) (Some e)
    best_before low best =
        ap (λ ds. first_or (head_of ds) best) (ap (above R q) forked.whole ∙ (left_of R o q l e (m ++ r) parted (less _ low)).above_is)
        ∙ first_of_split (above R q l) e (m ++ r) best

    -- what stands after the entry, where it isn't
    pub record IsAfter : Type 0 where
      pub rising : is_sorted R (m ++ r) ≡ true
      pub above_is : above R q es ≡ above R q (m ++ r)

    pub after_entry : is_lt (R q e.0) ≡ false → IsAfter
    after_entry apart = by (R q e.0) refl apart
      where
        by : (s : Ordering) → R q e.0 ≡ s → is_lt s ≡ false → IsAfter
        by Less is apart = absurd (cc)
        by Equal is apart =
            let split = here_at R o q l e (m ++ r) parted is in
            record { rising = split.rising; above_is = ap (above R q) forked.whole ∙ split.above_is }
        by Greater is apart =
            let split = right_of R o q l e (m ++ r) parted is in
            record { rising = split.rising; above_is = ap (above R q) forked.whole ∙ split.above_is }
