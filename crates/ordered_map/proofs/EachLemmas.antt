-- Entries that rise, without each of the keys that were parted at one of them.
use Rattle.std.proofs.Common.{◌≡◌, ◌≤◌, ◌-◌, cond, not, List, [], ◌∷◌, ◌++◌, length, take, drop, get_or, ap, sym, subst, ◌∙◌, refl, arith}
use Rattle.std.specs.Cmp.{IsTotalOrder}
use Rattle.std.specs.Ordering.{is_eq, is_lt}
use Rattle.std.specs.List.{AllByRecursion}
use Rattle.std.specs.FinMap.Entries.{is_sorted, below_all}
use Rattle.std.specs.declared.cmp.Ordering.{Ordering}
use Rattle.std.specs.declared.cmp.Ordering.TheVariants.{Less, Greater}
use Rattle.std.specs.Prelude.{true, false}
use Rattle.std.proofs.lemmas.Bool.{and_parts}
use Rattle.ordered_map.specs.Entries.{without, without_each}
use Rattle.ordered_map.specs.Parted.{IsParted, keyed}
use Rattle.ordered_map.specs.Runs.{IsPast}
use Rattle.ordered_map.proofs.CountLemmas.{without_rises}
use Rattle.ordered_map.proofs.PartLemmas.{all_after}
use Rattle.ordered_map.proofs.SplitLemmas.{less, turned, past_smaller, sorted_back, without_past, without_before, left_of, here_at, right_of}

-- these are left of some entries, and these of the keys are to come
pub record IsGone {K V : Type 0} (R : K → K → Ordering) (keys : List K) (es : List (K × V)) (rest : List K) (now : List (K × V)) : Type 0 where
  pub rising : is_sorted R now ≡ true
  pub rise : is_sorted R (keyed rest) ≡ true
  pub entries : without_each R rest now ≡ without_each R keys es
  pub joined : (right : List (K × V)) → is_sorted R (es ++ right) ≡ true → is_sorted R (now ++ right) ≡ true
  pub beyond : (right : List (K × V)) → is_sorted R (es ++ right) ≡ true → without_each R keys right ≡ without_each R rest right

module _ {K V : Type 0} (R : K → K → Ordering) (o : IsTotalOrder R) where
  each_append : (qs bs : List K) (es : List (K × V)) → without_each R (qs ++ bs) es ≡ without_each R bs (without_each R qs es)
  each_append [] bs es = refl
  each_append (a ∷ qs) bs es = each_append qs bs (without R a es)

  -- what stands behind an entry rises
  pub sorted_behind : (l : List (K × V)) (e : K × V) (r : List (K × V)) → is_sorted R (l ++ e ∷ r) ≡ true → is_sorted R r ≡ true
  sorted_behind l e r rising = (and_parts (below_all R e.0 r) (is_sorted R r) (sorted_back R l (e ∷ r) rising)).1

  pub none_without : (qs : List K) → without_each {V = V} R qs [] ≡ []
  none_without [] = refl
  none_without (q ∷ qs) = none_without qs

  pub each_rises : (qs : List K) (es : List (K × V)) → is_sorted R es ≡ true → is_sorted R (without_each R qs es) ≡ true
  each_rises [] es rising = rising
  each_rises (q ∷ qs) es rising = each_rises qs (without R q es) (without_rises R o es (without R q es) q rising refl)

  -- lesser keys leave on the left
  each_left : (qs : List K) (l : List (K × V)) (e : K × V) (r : List (K × V)) → is_sorted R (l ++ e ∷ r) ≡ true → AllByRecursion (λ k. R k e.0 ≡ Less) qs → without_each R qs (l ++ e ∷ r) ≡ without_each R qs l ++ e ∷ r
  each_left [] l e r rising low = refl
  each_left (a ∷ qs) l e r rising low =
      let split = left_of R o a l e r rising low.0 in
      ap (without_each R qs) split.without_is
      ∙ each_left qs (without R a l) e r (without_rises R o (l ++ e ∷ r) (without R a l ++ e ∷ r) a rising (sym split.without_is)) low.1

  -- greater keys leave on the right
  each_right : (bs : List K) (l : List (K × V)) (e : K × V) (r : List (K × V)) → is_sorted R (l ++ e ∷ r) ≡ true → AllByRecursion (λ k. R k e.0 ≡ Greater) bs → without_each R bs (l ++ e ∷ r) ≡ l ++ e ∷ without_each R bs r
  each_right [] l e r rising high = refl
  each_right (b ∷ bs) l e r rising high =
      let split = right_of R o b l e r rising high.0 in
      ap (without_each R bs) split.without_is
      ∙ each_right bs l e (without R b r) (without_rises R o (l ++ e ∷ r) (l ++ e ∷ without R b r) b rising (sym split.without_is)) high.1

  -- also where the entry between is gone
  each_beyond : (bs : List K) (l : List (K × V)) (e : K × V) (r : List (K × V)) → is_sorted R (l ++ e ∷ r) ≡ true → AllByRecursion (λ k. R k e.0 ≡ Greater) bs → without_each R bs (l ++ r) ≡ l ++ without_each R bs r
  each_beyond [] l e r rising high = refl
  each_beyond (b ∷ bs) l e r rising high =
      let split = right_of R o b l e r rising high.0 in
      ap (without_each R bs) (without_past R b l r (past_smaller R o b l e r rising high.0))
      ∙ each_beyond bs l e (without R b r) (without_rises R o (l ++ e ∷ r) (l ++ e ∷ without R b r) b rising (sym split.without_is)) high.1

  -- ---- two lists of entries, one behind the other

  without_over : (q : K) (es fs : List (K × V)) → without R q (es ++ fs) ≡ without R q es ++ without R q fs
  without_over q [] fs = refl
  without_over q (e ∷ es) fs =
      elim (is_eq (R q e.0)) as (λ b. cond (not b) (e ∷ without R q (es ++ fs)) (without R q (es ++ fs)) ≡ cond (not b) (e ∷ without R q es) (without R q es) ++ without R q fs) [
        | true ↦ without_over q es fs
        | false ↦ ap (λ ds. e ∷ ds) (without_over q es fs)
      ]

  each_over : (qs : List K) (es fs : List (K × V)) → without_each R qs (es ++ fs) ≡ without_each R qs es ++ without_each R qs fs
  each_over [] es fs = refl
  each_over (q ∷ qs) es fs = ap (without_each R qs) (without_over q es fs) ∙ each_over qs (without R q es) (without R q fs)

  -- ---- keys that are parted at an entry, where some others stand right of it, and more past them

  module _ (keys lesser greater beyond : List K) (l : List (K × V)) (e : K × V) (m r : List (K × V)) (rising : is_sorted R (l ++ e ∷ (m ++ r)) ≡ true) (past : (right : List (K × V)) → is_sorted R (m ++ right) ≡ true → without_each R greater right ≡ without_each R beyond right) where
    lesser_gone : AllByRecursion (λ k. R k e.0 ≡ Less) lesser → without_each R lesser (l ++ e ∷ (m ++ r)) ≡ without_each R lesser l ++ e ∷ (m ++ r)
    lesser_gone low = each_left lesser l e (m ++ r) rising low

    left_rises : AllByRecursion (λ k. R k e.0 ≡ Less) lesser → is_sorted R (without_each R lesser l ++ e ∷ (m ++ r)) ≡ true
    left_rises low = ap (is_sorted R) (sym (lesser_gone low)) ∙ each_rises lesser (l ++ e ∷ (m ++ r)) rising

    greater_gone : without_each R greater (m ++ r) ≡ without_each R greater m ++ without_each R beyond r
    greater_gone = each_over greater m r ∙ ap (λ es. without_each R greater m ++ es) (past r (sorted_behind l e (m ++ r) rising))

    -- the entry stays
    pub parted_beside : IsParted R e.0 keys lesser false greater → without_each R keys (l ++ e ∷ (m ++ r)) ≡ without_each R lesser l ++ e ∷ (without_each R greater m ++ without_each R beyond r)
    parted_beside p =
        ap (λ ks. without_each R ks (l ++ e ∷ (m ++ r))) (p.whole ∙ ap (λ ks. lesser ++ (ks ++ greater)) p.tied)
        ∙ each_append lesser greater (l ++ e ∷ (m ++ r))
        ∙ ap (without_each R greater) (lesser_gone p.low)
        ∙ each_right greater (without_each R lesser l) e (m ++ r) (left_rises p.low) p.high
        ∙ ap (λ es. without_each R lesser l ++ e ∷ es) greater_gone

    -- the entry goes too
    pub parted_here : IsParted R e.0 keys lesser true greater → without_each R keys (l ++ e ∷ (m ++ r)) ≡ without_each R lesser l ++ (without_each R greater m ++ without_each R beyond r)
    parted_here p =
        let k = p.tied.0 in
        ap (λ ks. without_each R ks (l ++ e ∷ (m ++ r))) (p.whole ∙ ap (λ ks. lesser ++ (ks ++ greater)) p.tied.1)
        ∙ each_append lesser (k ∷ greater) (l ++ e ∷ (m ++ r))
        ∙ ap (λ es. without_each R greater (without R k es)) (lesser_gone p.low)
        ∙ ap (without_each R greater) (here_at R o k (without_each R lesser l) e (m ++ r) (left_rises p.low) p.tied.2).without_is
        ∙ each_beyond greater (without_each R lesser l) e (m ++ r) (left_rises p.low) p.high
        ∙ ap (λ es. without_each R lesser l ++ es) greater_gone

  -- ---- keys that rise, taken out of entries as long as they aren't past all of these

  past_greater : (q k : K) (es : List (K × V)) → R q k ≡ Less → IsPast R q es → IsPast R k es
  past_greater q k [] low past = tt
  past_greater q k (e ∷ es) low past = (turned o e.0 k Less (o.trans e.0 q k (turned o q e.0 Greater past.0) low), past_greater q k es low past.1)

  past_all : (q : K) (es : List (K × V)) → IsPast R q es → without R q es ≡ es
  past_all q [] past = refl
  past_all q (e ∷ es) past =
      ap (λ r. cond (not (is_eq r)) (e ∷ without R q es) (without R q es)) past.0 ∙ ap (λ ds. e ∷ ds) (past_all q es past.1)

  each_past : (q : K) (qs : List K) (es : List (K × V)) → below_all R q (keyed qs) ≡ true → IsPast R q es → without_each R qs es ≡ es
  each_past q [] es low past = refl
  each_past q (k ∷ qs) es low past =
      let parts = and_parts (is_lt (R q k)) (below_all R q (keyed qs)) low in
      ap (without_each R qs) (past_all k es (past_greater q k es (less _ parts.0) past)) ∙ each_past q qs es parts.1 past

  module _ (keys : List K) (es : List (K × V)) where
    pub gone_none : is_sorted R es ≡ true → is_sorted R (keyed keys) ≡ true → IsGone R keys es keys es
    gone_none rising rise = record { rising = rising; rise = rise; entries = refl; joined = λ right h. h; beyond = λ right h. refl }

    pub gone_one : (rest : List K) (x : K) (now next : List (K × V)) → IsGone R keys es rest now → 1 ≤ length rest → x ≡ get_or rest 0 x → ((right : List (K × V)) → is_sorted R (now ++ right) ≡ true → below_all R x right ≡ true) → next ≡ without R x now → IsGone R keys es (take (length rest - 1) (drop 1 rest)) next
    gone_one [] x now next gone some is within left = absurd (omega (arith, some))
    gone_one (q ∷ qs) x now next gone some is within left = subst (λ ks. IsGone R keys es ks next) (sym (all_after (q ∷ qs) 1)) (record {
      rising = without_rises R o now next x gone.rising left;
      rise = (and_parts (below_all R q (keyed qs)) (is_sorted R (keyed qs)) gone.rise).1;
      entries = ap (without_each R qs) (left ∙ ap (λ k. without R k now) is) ∙ gone.entries;
      joined = λ right h.
          let below = within right (gone.joined right h) in
          without_rises R o (now ++ right) (next ++ right) x (gone.joined right h) (ap (λ ds. ds ++ right) left ∙ sym (without_before R x now right below));
      beyond = λ right h.
          let below = within right (gone.joined right h) in
          gone.beyond right h ∙ ap (λ k. without_each R qs (without R k right)) (sym is) ∙ ap (without_each R qs) (without_before R x [] right below);
    })

    pub gone_past : (rest : List K) (x : K) (now : List (K × V)) → IsGone R keys es rest now → 1 ≤ length rest → x ≡ get_or rest 0 x → IsPast R x now → now ≡ without_each R keys es
    gone_past [] x now gone some is past = absurd (omega (arith, some))
    gone_past (q ∷ qs) x now gone some is past =
        let here : IsPast R q now = subst (λ k. IsPast R k now) is past in
        let low = (and_parts (below_all R q (keyed qs)) (is_sorted R (keyed qs)) gone.rise).0 in
        sym (ap (without_each R qs) (past_all q now here) ∙ each_past q qs now low here) ∙ gone.entries
