-- A key among a few entries that rise.
use Rattle.std.proofs.Common.{◌≡◌, ◌<◌, ◌≤◌, ◌-◌, ◌+◌, ℕ, zero, suc, length, length-append, arith, List, [], ◌∷◌, ◌++◌, ap, sym, subst, ◌∙◌, refl, drop, take, get_or}
use Rattle.std.specs.declared.cmp.Ordering.{Ordering}
use Rattle.std.specs.declared.cmp.Ordering.TheVariants.{Less, Equal, Greater}
use Rattle.std.proofs.Math.Seq.{drop-cons}
use Rattle.std.proofs.lemmas.List.{append_assoc, get_or_default, length-take-le, take-append-drop, take_more}
use Rattle.std.proofs.lemmas.Option.{same_Some}
use Rattle.std.specs.Prelude.{slice_index_or, slice_set, Option, Some}
use Rattle.ordered_map.specs.Puts.{IsChangedOrPut, IsPut}
use Rattle.ordered_map.specs.Runs.{IsPast, IsFirst, IsLess, IsChanged, IsExchanged}
use Rattle.std.proofs.lemmas.List.{append-nil}
use Rattle.std.specs.Prelude.{insert, remove, slice_get, None, Bool, true, false, is_some, IfNone, IfSome, OnSome}
use Rattle.std.specs.Cmp.{IsTotalOrder}
use Rattle.std.specs.Ordering.{is_gt}
use Rattle.std.proofs.lemmas.Bool.{and_parts}
use Rattle.std.specs.FinMap.Entries.{find, put, is_sorted, below_all}
use Rattle.ordered_map.specs.Entries.{above, head_of, put_given, without}
use Rattle.std.specs.Option.{option_map, option_or}
use Rattle.std.proofs.lemmas.List.{length-map, map-append}
use Rattle.ordered_map.specs.Changes.{changed_all, changed_at, changed_or_given}
use Rattle.ordered_map.specs.Lapsed.{changed_or_without, lasting, with_value}
use Rattle.ordered_map.proofs.LapseLemmas.{lapsed_here, lasting_here}
use Rattle.ordered_map.proofs.ChangeLemmas.{changed_here, changed_left, given_here, past_stay}
use Rattle.ordered_map.proofs.SplitLemmas.{IsHere, above_before, above_past, below_smaller, below_tied, past_smaller, past_tied, sorted_back, find_past, here_at, left_of, put_past, without_past}

-- ---- what stands at a place

pub there : {A : Type 0} (l : List A) (e : A) (r : List A) (d : A) → slice_index_or (l ++ e ∷ r) (length l) d ≡ e
there [] e r d = refl
there (x ∷ l) e r d = there l e r d

pub set_there : {A : Type 0} (l : List A) (e : A) (r : List A) (x : A) → slice_set (l ++ e ∷ r) (length l) x ≡ l ++ x ∷ r
set_there [] e r x = refl
set_there (y ∷ l) e r x = ap (λ es. y ∷ es) (set_there l e r x)

module _ {K V : Type 0} (es : List (K × V)) (place : ℕ) (x : K × V) (is : x ≡ slice_index_or es place x) where
  here_is : (l : List (K × V)) (e : K × V) (r : List (K × V)) → es ≡ l ++ e ∷ r → place ≡ length l → x ≡ e
  here_is l e r whole at = is ∙ (λ i. slice_index_or (whole i) (at i) x) ∙ there l e r x

  pub value_changed : (f : V → V) → IsChanged f es place (slice_set es place (x.0, f x.1))
  value_changed f l e r whole at = (λ i. slice_set (whole i) (at i) ((here_is l e r whole at i).0, f (here_is l e r whole at i).1)) ∙ set_there l e r (e.0, f e.1)

  pub value_exchanged : (given back : Option V) (v : V) → given ≡ Some v → back ≡ Some x.1 → IsExchanged es place given back (slice_set es place (x.0, v))
  value_exchanged given back v is was l e r whole at w now = (
    (λ i. slice_set (whole i) (at i) ((here_is l e r whole at i).0, same_Some v w (sym is ∙ now) i)) ∙ set_there l e r (e.0, w),
    was ∙ ap (λ y. Some y.1) (here_is l e r whole at),
  )

module _ {K V : Type 0} (R : K → K → Ordering) (q : K) where
  pub past_one : (l : List (K × V)) (e : K × V) → IsPast R q l → R q e.0 ≡ Greater → IsPast R q (l ++ e ∷ [])
  past_one [] e p more = (more, tt)
  past_one (d ∷ l) e p more = (p.0, past_one l e p.1 more)

  -- ---- an entry at a place

  module _ (es : List (K × V)) (place : ℕ) (x : K × V) (within : place < length es) (is : x ≡ get_or es place x) where
    whole : es ≡ take place es ++ x ∷ drop (suc place) es
    whole = sym (take-append-drop place es) ∙ ap (λ ds. take place es ++ ds) (drop-cons es place x within ∙ ap (λ y. y ∷ drop (suc place) es) (sym is))

    first_at : (order : Ordering) → IsPast R q (take place es) → R q x.0 ≡ order → IsFirst R q es place order
    first_at order past here = record {
      before = take place es;
      entry = x;
      after = drop (suc place) es;
      whole = whole;
      size = sym (length-take-le place es (omega (arith, within)));
      past = past;
      here = here;
    }

    module _ (o : IsTotalOrder R) (rising : is_sorted R es ≡ true) where
      parted : is_sorted R (take place es ++ x ∷ drop (suc place) es) ≡ true
      parted = ap (is_sorted R) (sym whole) ∙ rising

      pub tied_at : R q x.0 ≡ Equal → IsFirst R q es place Equal
      tied_at tie = first_at Equal (past_tied R o q (take place es) x (drop (suc place) es) parted tie) tie

      pub past_through : R q x.0 ≡ Greater → IsPast R q (take (place + 1) es)
      past_through more =
          subst (IsPast R q) (sym (take_more es place x within ∙ ap (λ y. take place es ++ y ∷ []) (sym is)))
          (past_one (take place es) x (past_smaller R o q (take place es) x (drop (suc place) es) parted more) more)

  -- the first that is greater
  pub free_at : (es : List (K × V)) (place : ℕ) → place < length es → IsPast R q (take place es) → IsLess R q es place → IsFirst R q es place Less
  free_at [] place within past low = absurd (omega (arith, within))
  free_at (e ∷ es) place within past low =
      first_at (e ∷ es) place (get_or (e ∷ es) place e) within (get_or_default (e ∷ es) place e (get_or (e ∷ es) place e) within) Less past (low e)

pub inserted : {A : Type 0} (l m : List A) (x : A) → insert (l ++ m) (length l) x ≡ l ++ x ∷ m
inserted [] m x = refl
inserted (e ∷ l) m x = ap (λ es. e ∷ es) (inserted l m x)

pub removed : {A : Type 0} (l : List A) (e : A) (r : List A) → remove (l ++ e ∷ r) (length l) ≡ l ++ r
removed [] e r = refl
removed (x ∷ l) e r = ap (λ es. x ∷ es) (removed l e r)

pub dropped : {A : Type 0} (l m : List A) → drop (length l) (l ++ m) ≡ m
dropped [] m = refl
dropped (e ∷ l) m = dropped l m

-- ---- a key that isn't there, and where it belongs

module _ {K V : Type 0} (R : K → K → Ordering) (q : K) where
  pub record IsGap (es : List (K × V)) (place : ℕ) : Type 0 where
    pub find_is : find R q es ≡ None
    pub put_is : (v : V) → put R q v es ≡ insert es place (q, v)
    pub without_is : without R q es ≡ es
    pub above_is : above R q es ≡ drop place es

  pub gap_past : (es : List (K × V)) → IsPast R q es → IsGap es (length es)
  gap_past es past =
      let all = append-nil es in
      record {
        find_is = ap (find R q) (sym all) ∙ find_past R q es [] past;
        put_is = λ v. ap (put R q v) (sym all) ∙ put_past R q v es [] past ∙ sym (inserted es [] (q, v)) ∙ ap (λ ds. insert ds (length es) (q, v)) all;
        without_is = ap (without R q) (sym all) ∙ without_past R q es [] past ∙ all;
        above_is = ap (above R q) (sym all) ∙ above_past R q es [] past ∙ sym (dropped es []) ∙ ap (drop (length es)) all;
      }

  module _ (o : IsTotalOrder R) where
    between : (l : List (K × V)) (e : K × V) (r : List (K × V)) → is_sorted R (l ++ e ∷ r) ≡ true → IsPast R q l → R q e.0 ≡ Less → IsGap (l ++ e ∷ r) (length l)
    between l e r rising past low =
        let split = left_of R o q l e r rising low in
        let gap = gap_past l past in
        record {
          find_is = split.find_is ∙ gap.find_is;
          put_is = λ v. split.put_is (Some v) ∙ ap (λ ds. ds ++ e ∷ r) (gap.put_is v ∙ ap (λ ds. insert ds (length l) (q, v)) (sym (append-nil l)) ∙ inserted l [] (q, v)) ∙ append_assoc l ((q, v) ∷ []) (e ∷ r) ∙ sym (inserted l (e ∷ r) (q, v));
          without_is = split.without_is ∙ ap (λ ds. ds ++ e ∷ r) gap.without_is;
          above_is = split.above_is ∙ ap (λ ds. ds ++ e ∷ r) (gap.above_is ∙ ap (drop (length l)) (sym (append-nil l)) ∙ dropped l []) ∙ sym (dropped l (e ∷ r));
        }

    pub gap_at : (es : List (K × V)) (place : ℕ) → is_sorted R es ≡ true → IsFirst R q es place Less → IsGap es place
    gap_at es place rising first =
        subst (IsGap es) (sym first.size)
        (subst (λ ds. IsGap ds (length first.before)) (sym first.whole) (between first.before first.entry first.after (ap (is_sorted R) (sym first.whole) ∙ rising) first.past first.here))

    -- ---- a key that is there
    pub held_at : (es : List (K × V)) (place : ℕ) → is_sorted R es ≡ true → (first : IsFirst R q es place Equal) → IsHere R q first.before first.entry first.after
    held_at es place rising first = here_at R o q first.before first.entry first.after (ap (is_sorted R) (sym first.whole) ∙ rising) first.here

  pub is_there : (es : List (K × V)) (place : ℕ) (order : Ordering) → (first : IsFirst R q es place order) → (d : K × V) → slice_index_or es place d ≡ first.entry
  is_there es place order first d = (λ i. slice_index_or (first.whole i) (first.size i) d) ∙ there first.before first.entry first.after d

  pub is_within : (es : List (K × V)) (place : ℕ) (order : Ordering) → IsFirst R q es place order → place < length es
  is_within es place order first = let size = ap length first.whole ∙ length-append first.before (first.entry ∷ first.after) in let at = first.size in omega (arith, size, at)

  after_all : (l : List (K × V)) (e : K × V) (r : List (K × V)) (n : ℕ) → n ≡ length l + 1 → drop n (l ++ e ∷ r) ≡ r
  after_all [] e r n is = ap (λ m. drop m (e ∷ r)) is
  after_all (d ∷ l) e r zero is = absurd (omega (arith, is))
  after_all (d ∷ l) e r (suc n) is = after_all l e r n (omega (arith, is))

  pub after_here : (es : List (K × V)) (place : ℕ) (order : Ordering) → (first : IsFirst R q es place order) → drop (place + 1) es ≡ first.after
  after_here es place order first = ap (drop (place + 1)) first.whole ∙ after_all first.before first.entry first.after (place + 1) (ap (λ n. n + 1) first.size)

-- ---- the last entry, and a key beside it

pub last_of : {A : Type 0} (es : List A) (e : A) → slice_get es (length es - 1) ≡ Some e → (front : List A) × (es ≡ front ++ e ∷ [])
last_of [] e is = cc
last_of (x ∷ []) e is = ([], ap (λ y. y ∷ []) (same_Some x e is))
last_of (x ∷ y ∷ ys) e is =
    let one : length (x ∷ y ∷ ys) - 1 ≡ suc (length (y ∷ ys) - 1) = omega arith in
    let last = last_of (y ∷ ys) e (ap (slice_get (x ∷ y ∷ ys)) (sym one) ∙ is) in
    (x ∷ last.0, ap (λ zs. x ∷ zs) last.1)

pub head_at : {A : Type 0} (es : List A) (n : ℕ) → head_of (drop n es) ≡ slice_get es n
head_at [] zero = refl
head_at [] (suc n) = refl
head_at (e ∷ es) zero = refl
head_at (e ∷ es) (suc n) = head_at es n

module _ {K V : Type 0} (R : K → K → Ordering) (o : IsTotalOrder R) (q : K) (es : List (K × V)) (e : K × V) (is : slice_get es (length es - 1) ≡ Some e) where
  pub past_last : is_sorted R es ≡ true → is_gt (R q e.0) ≡ true → IsPast R q es
  past_last rising more =
      let last = last_of es e is in
      let greater = gt_is (R q e.0) more in
      subst (IsPast R q) (sym last.1) (past_one R q last.0 e (past_smaller R o q last.0 e [] (ap (is_sorted R) (sym last.1) ∙ rising) greater) greater)
    where
      gt_is : (r : Ordering) → is_gt r ≡ true → r ≡ Greater
      gt_is Less more = cc
      gt_is Equal more = cc
      gt_is Greater more = refl

  pub within_last : is_gt (R q e.0) ≡ false → (right : List (K × V)) → is_sorted R (es ++ right) ≡ true → below_all R q right ≡ true
  within_last low right rising =
      let last = last_of es e is in
      let whole = ap (λ ds. ds ++ right) last.1 ∙ append_assoc last.0 (e ∷ []) right in
      let parts = and_parts (below_all R e.0 right) (is_sorted R right) (sorted_back R last.0 (e ∷ right) (ap (is_sorted R) (sym whole) ∙ rising)) in
      by (R q e.0) refl low parts.0
    where
      by : (r : Ordering) → R q e.0 ≡ r → is_gt r ≡ false → below_all R e.0 right ≡ true → below_all R q right ≡ true
      by Less is low below = below_smaller R o q e.0 right is below
      by Equal is low below = below_tied R o q e.0 right is below
      by Greater is low below = cc

-- ---- what is above a key, and a value that would change

module _ {K V : Type 0} (R : K → K → Ordering) (q : K) where
  pub none_above : (es : List (K × V)) → IsPast R q es → above R q es ≡ []
  none_above es past = ap (above R q) (sym (append-nil es)) ∙ above_past R q es [] past

  module _ (o : IsTotalOrder R) (es : List (K × V)) (place : ℕ) (rising : is_sorted R es ≡ true) where
    pub held_above : (first : IsFirst R q es place Equal) → above R q es ≡ first.after
    held_above first =
        let whole = ap (is_sorted R) (sym first.whole) ∙ rising in
        let parts = and_parts (below_all R first.entry.0 first.after) (is_sorted R first.after) (sorted_back R first.before (first.entry ∷ first.after) whole) in
        ap (above R q) first.whole ∙ (held_at R q o es place rising first).above_is
        ∙ above_before R q [] first.after (below_tied R o q first.entry.0 first.after first.here parts.0)

    pub gap_stays : (f : V → V) → IsFirst R q es place Less → changed_at R q f es ≡ es
    gap_stays f first =
        ap (changed_at R q f) first.whole
        ∙ changed_left R q f o first.before first.entry first.after (ap (is_sorted R) (sym first.whole) ∙ rising) first.here
        ∙ ap (λ l. l ++ first.entry ∷ first.after) (past_stay R q f first.before first.past) ∙ sym first.whole

    pub held_changes : (f : V → V) → (first : IsFirst R q es place Equal) → changed_at R q f es ≡ first.before ++ (first.entry.0, f first.entry.1) ∷ first.after
    held_changes f first =
        ap (changed_at R q f) first.whole ∙ changed_here R q f o first.before first.entry first.after (ap (is_sorted R) (sym first.whole) ∙ rising) first.here

    pub taken_out : (first : IsFirst R q es place Equal) → remove es place ≡ without R q es
    taken_out first =
        (λ i. remove (first.whole i) (first.size i)) ∙ removed first.before first.entry first.after
        ∙ sym (ap (without R q) first.whole ∙ (held_at R q o es place rising first).without_is)

    pub found_there : (first : IsFirst R q es place Equal) → find R q es ≡ Some first.entry.1
    found_there first = ap (find R q) first.whole ∙ (held_at R q o es place rising first).find_is

    module _ (f : V → V) (lapsed : V → Bool) where
      pub held_lapses : (first : IsFirst R q es place Equal) → lapsed (f first.entry.1) ≡ true → changed_or_without R q f lapsed es ≡ first.before ++ first.after
      held_lapses first is =
          ap (changed_or_without R q f lapsed) first.whole
          ∙ lapsed_here R o q f lapsed first.before first.entry first.after (ap (is_sorted R) (sym first.whole) ∙ rising) first.here is

      pub held_lasts : (first : IsFirst R q es place Equal) → lapsed (f first.entry.1) ≡ false → changed_or_without R q f lapsed es ≡ first.before ++ (first.entry.0, f first.entry.1) ∷ first.after
      held_lasts first is =
          ap (changed_or_without R q f lapsed) first.whole
          ∙ lasting_here R o q f lapsed first.before first.entry first.after (ap (is_sorted R) (sym first.whole) ∙ rising) first.here is

  pub none_lapses : (f : V → V) (lapsed : V → Bool) (es : List (K × V)) → find R q es ≡ None → without R q es ≡ es → changed_or_without R q f lapsed es ≡ es
  none_lapses f lapsed es none all = ap (λ s. with_value R q (lasting lapsed (option_map f s)) es) none ∙ all

-- ---- a value that is put in, at a place or at a gap

module _ {K V : Type 0} (R : K → K → Ordering) (q : K) (es : List (K × V)) (place : ℕ) where
  module _ (o : IsTotalOrder R) (rising : is_sorted R es ≡ true) (first : IsFirst R q es place Equal) where
    pub held_put : (given back : Option V) (fs : List (K × V)) → is_some given ≡ true → IsExchanged es place given back fs → (back ≡ find R q es) × (fs ≡ put_given R q given es)
    held_put None back fs some exchanged = cc
    held_put (Some v) back fs some exchanged =
        let parts = exchanged first.before first.entry first.after first.whole first.size v refl in (
          parts.1 ∙ sym (found_there R q o es place rising first),
          parts.0 ∙ sym (ap (put R q v) first.whole ∙ (held_at R q o es place rising first).put_is v),
        )

    pub held_given : (f : V → V) (given : Option V) → changed_or_given R q f given es ≡ first.before ++ (first.entry.0, f first.entry.1) ∷ first.after
    held_given f given =
        ap (changed_or_given R q f given) first.whole
        ∙ given_here R q f o given first.before first.entry first.after (ap (is_sorted R) (sym first.whole) ∙ rising) first.here

  -- a new one, or one that finds no room
  module _ (gap : IsGap R q es place) (r : Option K) (given back : Option V) (fs : List (K × V)) (some : is_some given ≡ true) (used : IfNone r (back ≡ None)) (entries : IfNone r (IfSome given (λ v. fs ≡ insert es place (q, v)))) (key : IfSome r (λ k. k ≡ q)) (kept : OnSome r (fs ≡ es)) (same : OnSome r (back ≡ given)) where
    pub gap_put : IsPut R q given es r back fs
    gap_put = by r given some used entries key kept same
      where
        by : (r : Option K) (given : Option V) → is_some given ≡ true → IfNone r (back ≡ None) → IfNone r (IfSome given (λ v. fs ≡ insert es place (q, v))) → IfSome r (λ k. k ≡ q) → OnSome r (fs ≡ es) → OnSome r (back ≡ given) → IsPut R q given es r back fs
        by None None some used entries key kept same = absurd (cc)
        by None (Some v) some used entries key kept same = (used ∙ sym gap.find_is, entries ∙ sym (gap.put_is v))
        by (Some k) given some used entries key kept same = (key, same, kept, gap.find_is)

    pub gap_given : (f : V → V) → IsChangedOrPut R q f given es r back fs
    gap_given f = by r given some used entries key kept same
      where
        by : (r : Option K) (given : Option V) → is_some given ≡ true → IfNone r (back ≡ None) → IfNone r (IfSome given (λ v. fs ≡ insert es place (q, v))) → IfSome r (λ k. k ≡ q) → OnSome r (fs ≡ es) → OnSome r (back ≡ given) → IsChangedOrPut R q f given es r back fs
        by None None some used entries key kept same = absurd (cc)
        by None (Some v) some used entries key kept same = (ap is_some (used ∙ sym gap.find_is), entries ∙ sym (gap.put_is v) ∙ sym (ap (λ s. put_given R q (option_or (option_map f s) (Some v)) es) gap.find_is))
        by (Some k) given some used entries key kept same = (key, same, kept, gap.find_is)

-- ---- values that change one after another

module _ {K V : Type 0} (f : V → V) where
  pub record IsUpTo (es : List (K × V)) (place : ℕ) (fs : List (K × V)) : Type 0 where
    pub before : List (K × V)
    pub rest : List (K × V)
    pub whole : es ≡ before ++ rest
    pub size : place ≡ length before
    pub now : fs ≡ changed_all f before ++ rest

  pub up_to_none : (es fs : List (K × V)) → fs ≡ es → IsUpTo es 0 fs
  up_to_none es fs is = record { before = []; rest = es; whole = refl; size = refl; now = is }

  abbrev altered : K × V → K × V
  altered e = (e.0, f e.1)

  pub up_to_next : (es : List (K × V)) (place : ℕ) (fs gs : List (K × V)) → IsUpTo es place fs → place < length fs → IsChanged f fs place gs → IsUpTo es (place + 1) gs
  up_to_next es place fs gs up within changed = by up.rest up.whole up.now
    where
      size : (rest : List (K × V)) → fs ≡ changed_all f up.before ++ rest → length fs ≡ length up.before + length rest
      size rest now = ap length now ∙ length-append (changed_all f up.before) rest ∙ ap (λ n. n + length rest) (length-map up.before altered)

      by : (rest : List (K × V)) → es ≡ up.before ++ rest → fs ≡ changed_all f up.before ++ rest → IsUpTo es (place + 1) gs
      by [] whole now = let len = size [] now in let at = up.size in absurd (omega (arith, within, len, at))
      by (e ∷ rest) whole now = record {
        before = up.before ++ e ∷ [];
        rest = rest;
        whole = whole ∙ sym (append_assoc up.before (e ∷ []) rest);
        size = let len = length-append up.before (e ∷ []) in let at = up.size in omega (arith, len, at);
        now = changed (changed_all f up.before) e rest now (up.size ∙ sym (length-map up.before altered))
            ∙ sym (append_assoc (changed_all f up.before) (altered e ∷ []) rest) ∙ ap (λ ds. ds ++ rest) (sym (map-append altered up.before (e ∷ [])));
      }

  pub up_to_all : (es : List (K × V)) (place : ℕ) (fs : List (K × V)) → IsUpTo es place fs → length fs ≤ place → fs ≡ changed_all f es
  up_to_all es place fs up all = by up.rest up.whole up.now
    where
      by : (rest : List (K × V)) → es ≡ up.before ++ rest → fs ≡ changed_all f up.before ++ rest → fs ≡ changed_all f es
      by [] whole now = now ∙ append-nil (changed_all f up.before) ∙ ap (changed_all f) (sym (whole ∙ append-nil up.before))
      by (e ∷ rest) whole now =
          let len = ap length now ∙ length-append (changed_all f up.before) (e ∷ rest) ∙ ap (λ n. n + length (e ∷ rest)) (length-map up.before altered) in
          let at = up.size in
          absurd (omega (arith, all, len, at))

  pub up_to_size : (es : List (K × V)) (place : ℕ) (fs : List (K × V)) → IsUpTo es place fs → length fs ≡ length es
  up_to_size es place fs up =
      let len = ap length up.now ∙ length-append (changed_all f up.before) up.rest ∙ ap (λ n. n + length up.rest) (length-map up.before altered) in
      let all = ap length up.whole ∙ length-append up.before up.rest in
      omega (arith, len, all)
