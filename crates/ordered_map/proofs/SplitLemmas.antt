-- Entries that rise, split at one of them: where a key is sought, put, taken out and passed.
use Rattle.std.proofs.Common.{◌≡◌, ◌<◌, ◌+◌, length, length-append, arith, true, false, cond, not, List, [], ◌∷◌, ◌++◌, ap, ◌∙◌, refl}
use Rattle.std.specs.Prelude.{Option, None, Some}
use Rattle.std.specs.Cmp.{IsTotalOrder}
use Rattle.std.specs.Ordering.{is_lt, is_eq, ordering_reverse}
use Rattle.std.specs.declared.cmp.Ordering.{Ordering}
use Rattle.std.specs.declared.cmp.Ordering.TheVariants.{Less, Equal, Greater}
use Rattle.std.specs.FinMap.Entries.{find, put, is_sorted, below_all, by_order}
use Rattle.std.proofs.lemmas.Bool.{and_from, and_parts}
use Rattle.ordered_map.specs.Entries.{without, above, first_or, put_given, head_of}
use Rattle.ordered_map.specs.Runs.{IsPast}

pub less : (r : Ordering) → is_lt r ≡ true → r ≡ Less
less Less e = refl
less Equal e = cc
less Greater e = cc

pub turned : {K : Type 0} {R : K → K → Ordering} (o : IsTotalOrder R) (x y : K) (r : Ordering) → R x y ≡ r → R y x ≡ ordering_reverse r
turned o x y r e = o.antisymm y x ∙ ap ordering_reverse e

module _ {K X : Type 0} (R : K → K → Ordering) where
  -- what stands left of an entry, where the key is smaller than it
  pub record IsLeft (q : K) (l : List (K × X)) (e : K × X) (r : List (K × X)) : Type 0 where
    pub rising : is_sorted R l ≡ true
    pub find_is : find R q (l ++ e ∷ r) ≡ find R q l
    pub put_is : (o : Option X) → put_given R q o (l ++ e ∷ r) ≡ put_given R q o l ++ e ∷ r
    pub without_is : without R q (l ++ e ∷ r) ≡ without R q l ++ e ∷ r
    pub above_is : above R q (l ++ e ∷ r) ≡ above R q l ++ e ∷ r

  -- the entry itself, where it has the key
  pub record IsHere (q : K) (l : List (K × X)) (e : K × X) (r : List (K × X)) : Type 0 where
    pub find_is : find R q (l ++ e ∷ r) ≡ Some e.1
    pub put_is : (v : X) → put R q v (l ++ e ∷ r) ≡ l ++ (e.0, v) ∷ r
    pub without_is : without R q (l ++ e ∷ r) ≡ l ++ r
    pub above_is : above R q (l ++ e ∷ r) ≡ above R q r
    pub rising : is_sorted R r ≡ true

  -- what stands right of an entry, where the key is greater than it
  pub record IsRight (q : K) (l : List (K × X)) (e : K × X) (r : List (K × X)) : Type 0 where
    pub rising : is_sorted R r ≡ true
    pub find_is : find R q (l ++ e ∷ r) ≡ find R q r
    pub put_is : (o : Option X) → put_given R q o (l ++ e ∷ r) ≡ l ++ e ∷ put_given R q o r
    pub without_is : without R q (l ++ e ∷ r) ≡ l ++ e ∷ without R q r
    pub above_is : above R q (l ++ e ∷ r) ≡ above R q r

  pub below_front : (x : K) (l m : List (K × X)) → below_all R x (l ++ m) ≡ true → below_all R x l ≡ true
  below_front x [] m h = refl
  below_front x (e ∷ l) m h =
      let parts = and_parts (is_lt (R x e.0)) (below_all R x (l ++ m)) h in
      and_from _ _ parts.0 (below_front x l m parts.1)

  pub below_entry : (x : K) (l : List (K × X)) (e : K × X) (r : List (K × X)) → below_all R x (l ++ e ∷ r) ≡ true → R x e.0 ≡ Less
  below_entry x [] e r h = less _ (and_parts (is_lt (R x e.0)) (below_all R x r) h).0
  below_entry x (f ∷ l) e r h = below_entry x l e r (and_parts (is_lt (R x f.0)) (below_all R x (l ++ e ∷ r)) h).1

  pub sorted_front : (l m : List (K × X)) → is_sorted R (l ++ m) ≡ true → is_sorted R l ≡ true
  sorted_front [] m h = refl
  sorted_front (e ∷ l) m h =
      let parts = and_parts (below_all R e.0 (l ++ m)) (is_sorted R (l ++ m)) h in
      and_from _ _ (below_front e.0 l m parts.0) (sorted_front l m parts.1)

  pub sorted_back : (l m : List (K × X)) → is_sorted R (l ++ m) ≡ true → is_sorted R m ≡ true
  sorted_back [] m h = h
  sorted_back (e ∷ l) m h = sorted_back l m (and_parts (below_all R e.0 (l ++ m)) (is_sorted R (l ++ m)) h).1

  -- ---- past the entries with smaller keys

  pub find_past : (q : K) (l m : List (K × X)) → IsPast R q l → find R q (l ++ m) ≡ find R q m
  find_past q [] m p = refl
  find_past q (e ∷ l) m p = ap (λ r. cond (is_eq r) (Some e.1) (find R q (l ++ m))) p.0 ∙ find_past q l m p.1

  pub put_past : (q : K) (v : X) (l m : List (K × X)) → IsPast R q l → put R q v (l ++ m) ≡ l ++ put R q v m
  put_past q v [] m p = refl
  put_past q v (e ∷ l) m p =
      ap (λ r. by_order r ((q, v) ∷ e ∷ (l ++ m)) ((e.0, v) ∷ (l ++ m)) (e ∷ put R q v (l ++ m))) p.0
      ∙ ap (λ es. e ∷ es) (put_past q v l m p.1)

  pub given_past : (q : K) (l : List (K × X)) (e : K × X) (r : List (K × X)) → IsPast R q l → R q e.0 ≡ Greater → (o : Option X) → put_given R q o (l ++ e ∷ r) ≡ l ++ e ∷ put_given R q o r
  given_past q l e r p more None = refl
  given_past q l e r p more (Some v) = put_past q v l (e ∷ r) p ∙ ap (λ s. l ++ by_order s ((q, v) ∷ e ∷ r) ((e.0, v) ∷ r) (e ∷ put R q v r)) more

  pub given_over : (q : K) (l m : List (K × X)) → IsPast R q l → (o : Option X) → put_given R q o (l ++ m) ≡ l ++ put_given R q o m
  given_over q l m p None = refl
  given_over q l m p (Some v) = put_past q v l m p

  pub without_past : (q : K) (l m : List (K × X)) → IsPast R q l → without R q (l ++ m) ≡ l ++ without R q m
  without_past q [] m p = refl
  without_past q (e ∷ l) m p =
      ap (λ r. cond (not (is_eq r)) (e ∷ without R q (l ++ m)) (without R q (l ++ m))) p.0
      ∙ ap (λ es. e ∷ es) (without_past q l m p.1)

  pub above_past : (q : K) (l m : List (K × X)) → IsPast R q l → above R q (l ++ m) ≡ above R q m
  above_past q [] m p = refl
  above_past q (e ∷ l) m p =
      ap (λ r. cond (is_lt r) (e ∷ above R q (l ++ m)) (above R q (l ++ m))) p.0 ∙ above_past q l m p.1

  -- ---- before the entries with greater keys

  pub find_before : (q : K) (l m : List (K × X)) → below_all R q m ≡ true → find R q (l ++ m) ≡ find R q l
  find_before q [] [] h = refl
  find_before q [] (e ∷ m) h =
      let parts = and_parts (is_lt (R q e.0)) (below_all R q m) h in
      ap (λ r. cond (is_eq r) (Some e.1) (find R q m)) (less _ parts.0) ∙ find_before q [] m parts.1
  find_before q (e ∷ l) m h = ap (cond (is_eq (R q e.0)) (Some e.1)) (find_before q l m h)

  pub put_before : (q : K) (v : X) (l m : List (K × X)) → below_all R q m ≡ true → put R q v (l ++ m) ≡ put R q v l ++ m
  put_before q v [] [] h = refl
  put_before q v [] (e ∷ m) h =
      let parts = and_parts (is_lt (R q e.0)) (below_all R q m) h in
      ap (λ r. by_order r ((q, v) ∷ e ∷ m) ((e.0, v) ∷ m) (e ∷ put R q v m)) (less _ parts.0)
  put_before q v (e ∷ l) m h =
      elim (R q e.0) as (λ r. by_order r ((q, v) ∷ e ∷ (l ++ m)) ((e.0, v) ∷ (l ++ m)) (e ∷ put R q v (l ++ m)) ≡ by_order r ((q, v) ∷ e ∷ l) ((e.0, v) ∷ l) (e ∷ put R q v l) ++ m) [
        | Less ↦ refl
        | Equal ↦ refl
        | Greater ↦ ap (λ es. e ∷ es) (put_before q v l m h)
      ]

  pub given_before : (q : K) (l m : List (K × X)) → below_all R q m ≡ true → (o : Option X) → put_given R q o (l ++ m) ≡ put_given R q o l ++ m
  given_before q l m h None = refl
  given_before q l m h (Some v) = put_before q v l m h

  pub without_before : (q : K) (l m : List (K × X)) → below_all R q m ≡ true → without R q (l ++ m) ≡ without R q l ++ m
  without_before q [] [] h = refl
  without_before q [] (e ∷ m) h =
      let parts = and_parts (is_lt (R q e.0)) (below_all R q m) h in
      ap (λ r. cond (not (is_eq r)) (e ∷ without R q m) (without R q m)) (less _ parts.0)
      ∙ ap (λ es. e ∷ es) (without_before q [] m parts.1)
  without_before q (e ∷ l) m h =
      elim (is_eq (R q e.0)) as (λ b. cond (not b) (e ∷ without R q (l ++ m)) (without R q (l ++ m)) ≡ cond (not b) (e ∷ without R q l) (without R q l) ++ m) [
        | true ↦ without_before q l m h
        | false ↦ ap (λ es. e ∷ es) (without_before q l m h)
      ]

  pub above_before : (q : K) (l m : List (K × X)) → below_all R q m ≡ true → above R q (l ++ m) ≡ above R q l ++ m
  above_before q [] [] h = refl
  above_before q [] (e ∷ m) h =
      let parts = and_parts (is_lt (R q e.0)) (below_all R q m) h in
      ap (λ r. cond (is_lt r) (e ∷ above R q m) (above R q m)) (less _ parts.0)
      ∙ ap (λ es. e ∷ es) (above_before q [] m parts.1)
  above_before q (e ∷ l) m h =
      elim (is_lt (R q e.0)) as (λ b. cond b (e ∷ above R q (l ++ m)) (above R q (l ++ m)) ≡ cond b (e ∷ above R q l) (above R q l) ++ m) [
        | true ↦ ap (λ es. e ∷ es) (above_before q l m h)
        | false ↦ above_before q l m h
      ]

  module _ (o : IsTotalOrder R) where
    -- a key that is not smaller than an entry is greater than all before it
    pub past_smaller : (q : K) (l : List (K × X)) (e : K × X) (r : List (K × X)) → is_sorted R (l ++ e ∷ r) ≡ true → R q e.0 ≡ Greater → IsPast R q l
    past_smaller q [] e r h more = tt
    past_smaller q (f ∷ l) e r h more =
        let parts = and_parts (below_all R f.0 (l ++ e ∷ r)) (is_sorted R (l ++ e ∷ r)) h in
        (turned o f.0 q Less (o.trans f.0 e.0 q (below_entry f.0 l e r parts.0) (turned o q e.0 Greater more)), past_smaller q l e r parts.1 more)

    pub past_tied : (q : K) (l : List (K × X)) (e : K × X) (r : List (K × X)) → is_sorted R (l ++ e ∷ r) ≡ true → R q e.0 ≡ Equal → IsPast R q l
    past_tied q [] e r h tie = tt
    past_tied q (f ∷ l) e r h tie =
        let parts = and_parts (below_all R f.0 (l ++ e ∷ r)) (is_sorted R (l ++ e ∷ r)) h in
        (o.congr q e.0 f.0 tie ∙ turned o f.0 e.0 Less (below_entry f.0 l e r parts.0), past_tied q l e r parts.1 tie)

    pub below_smaller : (q x : K) (es : List (K × X)) → R q x ≡ Less → below_all R x es ≡ true → below_all R q es ≡ true
    below_smaller q x [] low h = refl
    below_smaller q x (e ∷ es) low h =
        let parts = and_parts (is_lt (R x e.0)) (below_all R x es) h in
        and_from _ _ (ap is_lt (o.trans q x e.0 low (less _ parts.0))) (below_smaller q x es low parts.1)

    pub below_tied : (q x : K) (es : List (K × X)) → R q x ≡ Equal → below_all R x es ≡ true → below_all R q es ≡ true
    below_tied q x [] tie h = refl
    below_tied q x (e ∷ es) tie h =
        let parts = and_parts (is_lt (R x e.0)) (below_all R x es) h in
        and_from _ _ (ap is_lt (o.congr q x e.0 tie) ∙ parts.0) (below_tied q x es tie parts.1)

    pub left_of : (q : K) (l : List (K × X)) (e : K × X) (r : List (K × X)) → is_sorted R (l ++ e ∷ r) ≡ true → R q e.0 ≡ Less → IsLeft q l e r
    left_of q l e r h low =
        let parts = and_parts (below_all R e.0 r) (is_sorted R r) (sorted_back l (e ∷ r) h) in
        let below : below_all R q (e ∷ r) ≡ true = and_from (is_lt (R q e.0)) (below_all R q r) (ap is_lt low) (below_smaller q e.0 r low parts.0) in
        record {
          rising = sorted_front l (e ∷ r) h;
          find_is = find_before q l (e ∷ r) below;
          put_is = given_before q l (e ∷ r) below;
          without_is = without_before q l (e ∷ r) below;
          above_is = above_before q l (e ∷ r) below;
        }

    pub here_at : (q : K) (l : List (K × X)) (e : K × X) (r : List (K × X)) → is_sorted R (l ++ e ∷ r) ≡ true → R q e.0 ≡ Equal → IsHere q l e r
    here_at q l e r h tie =
        let parts = and_parts (below_all R e.0 r) (is_sorted R r) (sorted_back l (e ∷ r) h) in
        let past = past_tied q l e r h tie in
        let below = below_tied q e.0 r tie parts.0 in
        record {
          find_is = find_past q l (e ∷ r) past ∙ ap (λ s. cond (is_eq s) (Some e.1) (find R q r)) tie;
          put_is = λ v. put_past q v l (e ∷ r) past ∙ ap (λ s. l ++ by_order s ((q, v) ∷ e ∷ r) ((e.0, v) ∷ r) (e ∷ put R q v r)) tie;
          without_is = without_past q l (e ∷ r) past
              ∙ ap (λ s. l ++ cond (not (is_eq s)) (e ∷ without R q r) (without R q r)) tie
              ∙ ap (λ es. l ++ es) (without_before q [] r below);
          above_is = above_past q l (e ∷ r) past ∙ ap (λ s. cond (is_lt s) (e ∷ above R q r) (above R q r)) tie;
          rising = parts.1;
        }

    pub right_of : (q : K) (l : List (K × X)) (e : K × X) (r : List (K × X)) → is_sorted R (l ++ e ∷ r) ≡ true → R q e.0 ≡ Greater → IsRight q l e r
    right_of q l e r h more =
        let parts = and_parts (below_all R e.0 r) (is_sorted R r) (sorted_back l (e ∷ r) h) in
        let past = past_smaller q l e r h more in
        record {
          rising = parts.1;
          find_is = find_past q l (e ∷ r) past ∙ ap (λ s. cond (is_eq s) (Some e.1) (find R q r)) more;
          put_is = given_past q l e r past more;
          without_is = without_past q l (e ∷ r) past ∙ ap (λ s. l ++ cond (not (is_eq s)) (e ∷ without R q r) (without R q r)) more;
          above_is = above_past q l (e ∷ r) past ∙ ap (λ s. cond (is_lt s) (e ∷ above R q r) (above R q r)) more;
        }

-- ---- both sides of an entry are shorter than the whole
pub left_shorter : {A : Type 0} (es l : List A) (e : A) (r : List A) → es ≡ l ++ e ∷ r → length l < length es
left_shorter es l e r whole = let size = ap length whole ∙ length-append l (e ∷ r) in omega (arith, size)

pub right_shorter : {A : Type 0} (es l : List A) (e : A) (r : List A) → es ≡ l ++ e ∷ r → length r < length es
right_shorter es l e r whole = let size = ap length whole ∙ length-append l (e ∷ r) in omega (arith, size)

-- ---- the first of some entries, and else the best one before them

pub first_of_split : {A : Type 0} (l : List A) (e : A) (r : List A) (best : Option A) → first_or (head_of (l ++ e ∷ r)) best ≡ first_or (head_of l) (Some e)
first_of_split [] e r best = refl
first_of_split (x ∷ l) e r best = refl

-- ---- what stands right of an entry, split once more

pub length_parts : {A : Type 0} (l : List A) (e : A) (m r : List A) → length (l ++ e ∷ (m ++ r)) ≡ length l + (1 + (length m + length r))
length_parts l e m r =
    let size = length-append l (e ∷ (m ++ r)) in
    let rest = length-append m r in
    omega (arith, size, rest)

pub last_shorter : {A : Type 0} (es l : List A) (e : A) (m r : List A) → es ≡ l ++ e ∷ (m ++ r) → length r < length es
last_shorter es l e m r whole = let size = ap length whole ∙ length_parts l e m r in omega (arith, size)

module _ {K X : Type 0} (R : K → K → Ordering) where
  -- what stands past some others, where the key is greater than all of these
  pub record IsBeyond (q : K) (l : List (K × X)) (e : K × X) (m r : List (K × X)) : Type 0 where
    pub rising : is_sorted R r ≡ true
    pub find_is : find R q (l ++ e ∷ (m ++ r)) ≡ find R q r
    pub put_is : (o : Option X) → put_given R q o (l ++ e ∷ (m ++ r)) ≡ l ++ e ∷ (m ++ put_given R q o r)
    pub without_is : without R q (l ++ e ∷ (m ++ r)) ≡ l ++ e ∷ (m ++ without R q r)

  -- the others themselves, where the key is smaller than what stands past them
  pub record IsBetween (q : K) (l : List (K × X)) (e : K × X) (m r : List (K × X)) : Type 0 where
    pub rising : is_sorted R m ≡ true
    pub find_is : find R q (l ++ e ∷ (m ++ r)) ≡ find R q m
    pub put_is : (o : Option X) → put_given R q o (l ++ e ∷ (m ++ r)) ≡ l ++ e ∷ (put_given R q o m ++ r)
    pub without_is : without R q (l ++ e ∷ (m ++ r)) ≡ l ++ e ∷ (without R q m ++ r)

  module _ (o : IsTotalOrder R) (q : K) (l : List (K × X)) (e : K × X) (m r : List (K × X)) (h : is_sorted R (l ++ e ∷ (m ++ r)) ≡ true) (more : R q e.0 ≡ Greater) where
    pub beyond_of : IsPast R q m → IsBeyond q l e m r
    beyond_of past =
        let split = right_of R o q l e (m ++ r) h more in
        record {
          rising = sorted_back R m r split.rising;
          find_is = split.find_is ∙ find_past R q m r past;
          put_is = λ given. split.put_is given ∙ ap (λ es. l ++ e ∷ es) (given_over R q m r past given);
          without_is = split.without_is ∙ ap (λ es. l ++ e ∷ es) (without_past R q m r past);
        }

    pub between_of : (is_sorted R (m ++ r) ≡ true → below_all R q r ≡ true) → IsBetween q l e m r
    between_of within =
        let split = right_of R o q l e (m ++ r) h more in
        let below = within split.rising in
        record {
          rising = sorted_front R m r split.rising;
          find_is = split.find_is ∙ find_before R q m r below;
          put_is = λ given. split.put_is given ∙ ap (λ es. l ++ e ∷ es) (given_before R q m r below given);
          without_is = split.without_is ∙ ap (λ es. l ++ e ∷ es) (without_before R q m r below);
        }
