-- What entries weigh without one of them, and what holds of a map's parts after keys were taken out.
use Rattle.std.proofs.Common.{◌≡◌, ℕ, ◌+◌, ◌≤◌, Bool, true, false, cond, not, List, [], ◌∷◌, ◌++◌, length, sym, ap, ◌∙◌, refl, arith}
use Rattle.std.specs.Prelude.{T, Option, Some, None, is_some}
use Rattle.std.specs.Cmp.{IsTotalOrder}
use Rattle.std.specs.Ordering.{is_eq}
use Rattle.std.specs.declared.cmp.Ordering.{Ordering}
use Rattle.std.specs.declared.cmp.Ordering.TheVariants.{Less, Equal, Greater}
use Rattle.std.specs.FinMap.Entries.{find, is_sorted, below_all, length_without}
use Rattle.std.proofs.lemmas.Bool.{and_parts}
use Rattle.std.proofs.lemmas.List.Sums.{sum_by-append, sum_by-cons}
use Rattle.ordered_map.specs.Entries.{without, without_each}
use Rattle.ordered_map.specs.Kept.{IsKept}
use Rattle.ordered_map.specs.Weights.{weigh}
use Rattle.ordered_map.proofs.CountLemmas.{without_rises}
use Rattle.ordered_map.proofs.EachLemmas.{each_rises}
use Rattle.ordered_map.proofs.SplitLemmas.{below_tied, without_before}

-- what a value weighs that is there or not
abbrev pub weight_of : {V : Type 0} → (V → ℕ) → Option V → ℕ
weight_of w None = 0
weight_of w (Some v) = w v

holds : (b : Bool) → b ≡ true → T b
holds true e = tt
holds false e = cc

equal : (r : Ordering) → is_eq r ≡ true → r ≡ Equal
equal Less e = cc
equal Equal e = refl
equal Greater e = cc

pub weigh_nothing : {K V : Type 0} (es : List (K × V)) → weigh (λ (v : V). 0) es ≡ 0
weigh_nothing [] = refl
weigh_nothing {K} {V} (e ∷ es) =
    let size : weigh (λ (v : V). 0) (e ∷ es) ≡ 0 + weigh (λ (v : V). 0) es = sum_by-cons (λ (d : K × V). 0) e es in
    size ∙ ap (λ n. 0 + n) (weigh_nothing es)

weigh_cons : {K V : Type 0} (w : V → ℕ) (e : K × V) (es : List (K × V)) → weigh w (e ∷ es) ≡ w e.1 + weigh w es
weigh_cons {K} {V} w e es = sum_by-cons (λ (d : K × V). w d.1) e es

pub weigh_split : {K V : Type 0} (w : V → ℕ) (l : List (K × V)) (e : K × V) (r : List (K × V)) → weigh w (l ++ e ∷ r) ≡ weigh w l + (w e.1 + weigh w r)
weigh_split {K} {V} w l e r = sum_by-append (λ (d : K × V). w d.1) l (e ∷ r) ∙ ap (λ n. weigh w l + n) (weigh_cons w e r)

pub weigh_parts : {K V : Type 0} (w : V → ℕ) (l : List (K × V)) (e : K × V) (m r : List (K × V)) → weigh w (l ++ e ∷ (m ++ r)) ≡ weigh w l + (w e.1 + (weigh w m + weigh w r))
weigh_parts {K} {V} w l e m r = weigh_split w l e (m ++ r) ∙ ap (λ n. weigh w l + (w e.1 + n)) (sum_by-append (λ (d : K × V). w d.1) m r)

module _ {K V : Type 0} (R : K → K → Ordering) (o : IsTotalOrder R) where
  pub weigh_without : (w : V → ℕ) (k : K) (es : List (K × V)) → is_sorted R es ≡ true → weight_of w (find R k es) + weigh w (without R k es) ≡ weigh w es
  weigh_without w k [] rising = refl
  weigh_without w k (e ∷ es) rising = by (is_eq (R k e.0)) refl (weigh_without w k es parts.1)
    where
      parts : (below_all R e.0 es ≡ true) × (is_sorted R es ≡ true)
      parts = and_parts (below_all R e.0 es) (is_sorted R es) rising

      by : (b : Bool) → is_eq (R k e.0) ≡ b → weight_of w (find R k es) + weigh w (without R k es) ≡ weigh w es → weight_of w (cond b (Some e.1) (find R k es)) + weigh w (cond (not b) (e ∷ without R k es) (without R k es)) ≡ weigh w (e ∷ es)
      by true tie rest = ap (λ ds. w e.1 + weigh w ds) (without_before R k [] es (below_tied R o k e.0 es (equal (R k e.0) tie) parts.0)) ∙ sym (weigh_cons w e es)
      by false apart rest =
          let size = weigh_cons w e (without R k es) in
          let whole = weigh_cons w e es in
          omega (arith, rest, size, whole)

  -- a key taken out, and what was found of it
  pub record IsTaken (w : V → ℕ) (es fs : List (K × V)) (found : Option V) : Type 0 where
    pub rising : is_sorted R fs ≡ true
    pub size : cond (is_some found) 1 0 + length fs ≡ length es
    pub weight : weight_of w found + weigh w fs ≡ weigh w es

  pub took : (w : V → ℕ) (k : K) (es fs : List (K × V)) (found : Option V) → is_sorted R es ≡ true → fs ≡ without R k es → found ≡ find R k es → IsTaken w es fs found
  took w k es fs found rising is there =
      let size : cond (is_some (find R k es)) 1 0 + length (without R k es) ≡ length es = length_without R o k es (holds _ rising) in
      record {
        rising = without_rises R o es fs k rising is;
        size = (λ i. cond (is_some (there i)) 1 0 + length (is i)) ∙ size;
        weight = (λ i. weight_of w (there i) + weigh w (is i)) ∙ weigh_without w k es rising;
      }

  without_fewer : (q : K) (es : List (K × V)) → length (without R q es) ≤ length es
  without_fewer q [] = omega arith
  without_fewer q (e ∷ es) =
      let fewer = without_fewer q es in
      elim (is_eq (R q e.0)) as (λ b. length (cond (not b) (e ∷ without R q es) (without R q es)) ≤ length (e ∷ es)) [ true ↦ omega (arith, fewer) | false ↦ omega (arith, fewer) ]

  each_fewer : (qs : List K) (es : List (K × V)) → length (without_each R qs es) ≤ length es
  each_fewer [] es = omega arith
  each_fewer (q ∷ qs) es =
      let one = without_fewer q es in
      let others = each_fewer qs (without R q es) in
      omega (arith, one, others)

  pub each_kept : (qs : List K) (es fs : List (K × V)) (spare left room count after : ℕ) → IsKept R es spare room count → fs ≡ without_each R qs es → after + length es ≡ count + length fs → spare ≤ left → IsKept R fs left room after
  each_kept qs es fs spare left room count after kept is counts boxes =
      let size = ap length is in
      let fewer = each_fewer qs es in
      record {
        rising = ap (is_sorted R) is ∙ each_rises R o qs es kept.rising;
        boxes = omega (arith, boxes, kept.boxes);
        counted = omega (arith, counts, kept.counted);
        fits = omega (arith, counts, size, fewer, kept.counted, kept.fits);
      }
