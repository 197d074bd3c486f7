-- The part of some entries where a key is sought, and put.
use Rattle.std.proofs.Common.{ℕ, ◌≡◌, ◌<◌, true, false, length, arith, List, [], ◌∷◌, ◌++◌, sym, ap, subst, ◌∙◌, refl}
use Rattle.std.proofs.lemmas.List.{append_assoc, append-nil}
use Rattle.std.proofs.lemmas.Option.{same_Some}
use Rattle.std.specs.Prelude.{Option, None, Some, is_some, drop}
use Rattle.std.specs.Cmp.{IsTotalOrder}
use Rattle.std.specs.Option.{option_map, option_or}
use Rattle.std.specs.Ordering.{is_lt}
use Rattle.std.specs.declared.cmp.Ordering.{Ordering}
use Rattle.std.specs.declared.cmp.Ordering.TheVariants.{Less, Equal, Greater}
use Rattle.std.specs.FinMap.Entries.{find, put, is_sorted, below_all}
use Rattle.ordered_map.specs.Changes.{changed_at, changed_or_given}
use Rattle.ordered_map.specs.Entries.{entries_of, node_entries, put_given, head_of}
use Rattle.ordered_map.specs.declared.tree.Tree.{Tree}
use Rattle.ordered_map.specs.declared.tree.Node.{Node, Full}
use Rattle.ordered_map.specs.Puts.{HasNoRoom, IsChangedOrPut, IsPut}
use Rattle.ordered_map.proofs.ChangeLemmas.{changed_here, changed_left, changed_right, given_here}
use Rattle.ordered_map.proofs.SplitLemmas.{left_shorter, right_shorter, length_parts, left_of, here_at, right_of, between_of}

-- what is left after the first
first_and_rest : {A : Type 0} (es : List A) (e : A) → head_of es ≡ Some e → es ≡ e ∷ drop 1 es
first_and_rest [] e is = cc
first_and_rest (x ∷ es) e is = ap (λ y. y ∷ es) (same_Some x e is)

pub all_of : {A : Type 0} (m : List A) {t : List A} → t ≡ [] → m ++ t ≡ m
all_of m none = ap (λ ds. m ++ ds) none ∙ append-nil m

module _ {K X : Type 0} (R : K → K → Ordering) where
  -- entries that rise, with one between those left of it and some greater ones, and with more right of these
  pub record IsForked (es l : List (K × X)) (e : K × X) (m r : List (K × X)) : Type 0 where
    pub whole : es ≡ l ++ e ∷ (m ++ r)
    pub rising : is_sorted R es ≡ true

  -- the entries of a node
  pub forked_at : {es : List (K × X)} {node : Node K X} {height : ℕ} {key : K} {left right : Tree K X} {value : X} {others : List (K × X)} → es ≡ node_entries node → node ≡ Full height key left right value others → is_sorted R es ≡ true → IsForked es (entries_of left) (key, value) others (entries_of right)
  forked_at is full rising = record { whole = is ∙ ap node_entries full; rising = rising }

  -- the same with some others before them
  pub forked_beside : (run : List (K × X)) {es : List (K × X)} {node : Node K X} {height : ℕ} {key : K} {left right : Tree K X} {value : X} {others : List (K × X)} → es ≡ node_entries node → node ≡ Full height key left right value others → is_sorted R (run ++ es) ≡ true → IsForked (run ++ es) (run ++ entries_of left) (key, value) others (entries_of right)
  forked_beside run {es} {node} {height} {key} {left} {right} {value} {others} is full rising = record {
    whole = ap (λ ds. run ++ ds) (is ∙ ap node_entries full) ∙ sym (append_assoc run (entries_of left) ((key, value) ∷ (others ++ entries_of right)));
    rising = rising;
  }

  -- halves: the least one of the upper half stands between the lower half and the others of the upper one
  pub halved : (es lower upper rest : List (K × X)) (e : K × X) → lower ++ upper ≡ es → Some e ≡ head_of upper → rest ≡ drop 1 upper → is_sorted R es ≡ true → IsForked es lower e rest []
  halved es lower upper rest e whole is left rising = record {
    whole = sym whole ∙ ap (λ ds. lower ++ ds) (first_and_rest upper e (sym is)) ∙ ap (λ ds. lower ++ e ∷ ds) (sym left ∙ sym (append-nil rest));
    rising = rising;
  }

  module _ (q : K) where
    -- a key stands in this part of the entries, or belongs there, and `around` gives all of them
    pub record IsSought (es part : List (K × X)) (around : List (K × X) → List (K × X)) : Type 0 where
      pub rising : is_sorted R part ≡ true
      pub smaller : length part < length es
      pub find_is : find R q es ≡ find R q part
      pub put_is : (v : Option X) → put_given R q v es ≡ around (put_given R q v part)

    -- a value that changes there, or is given
    pub given_is : (f : X → X) (given : Option X) {es part : List (K × X)} {around : List (K × X) → List (K × X)} → IsSought es part around → changed_or_given R q f given es ≡ around (changed_or_given R q f given part)
    given_is f given {es} {part} sought =
        ap (λ s. put_given R q (option_or (option_map f s) given) es) sought.find_is
        ∙ sought.put_is (option_or (option_map f (find R q part)) given)

    -- a value that is given to a key without one
    pub given_new : (f : X → X) (given : Option X) (es : List (K × X)) → find R q es ≡ None → changed_or_given R q f given es ≡ put_given R q given es
    given_new f given es absent = ap (λ s. put_given R q (option_or (option_map f s) given) es) absent

    -- a key that is put in this part, or finds no room there
    no_room : (given : Option X) {es part : List (K × X)} {around : List (K × X) → List (K × X)} → IsSought es part around → (key : K) (back : Option X) (fs : List (K × X)) → HasNoRoom R q given part key back fs → HasNoRoom R q given es key back (around fs)
    no_room given {es} {part} {around} sought key back fs none = (none.0, none.1, ap around none.2 ∙ sym (sought.put_is None), sought.find_is ∙ none.3)

    pub put_sought : (given : Option X) {es part : List (K × X)} {around : List (K × X) → List (K × X)} → IsSought es part around → (result : Option K) (back : Option X) (fs : List (K × X)) → IsPut R q given part result back fs → IsPut R q given es result back (around fs)
    put_sought given {es} {part} {around} sought None back fs put = (put.0 ∙ sym sought.find_is, ap around put.1 ∙ sym (sought.put_is given))
    put_sought given sought (Some key) back fs none = no_room given sought key back fs none

    pub changed_sought : (f : X → X) (given : Option X) {es part : List (K × X)} {around : List (K × X) → List (K × X)} → IsSought es part around → (result : Option K) (back : Option X) (fs : List (K × X)) → IsChangedOrPut R q f given part result back fs → IsChangedOrPut R q f given es result back (around fs)
    changed_sought f given {es} {part} {around} sought None back fs put = (put.0 ∙ ap is_some (sym sought.find_is), ap around put.1 ∙ sym (given_is f given sought))
    changed_sought f given sought (Some key) back fs none = no_room given sought key back fs none

    -- among entries with none beside them
    module _ (given : Option X) (m : List (K × X)) (result : Option K) (back : Option X) (n : List (K × X)) {t u : List (K × X)} (none : t ≡ []) (still : u ≡ []) where
      pub put_alone : IsPut R q given m result back n → IsPut R q given (m ++ t) result back (n ++ u)
      put_alone put = subst (λ es. IsPut R q given es result back (n ++ u)) (sym (all_of m none)) (subst (λ fs. IsPut R q given m result back fs) (sym (all_of n still)) put)

      pub changed_alone : (f : X → X) → IsChangedOrPut R q f given m result back n → IsChangedOrPut R q f given (m ++ t) result back (n ++ u)
      changed_alone f put = subst (λ es. IsChangedOrPut R q f given es result back (n ++ u)) (sym (all_of m none)) (subst (λ fs. IsChangedOrPut R q f given m result back fs) (sym (all_of n still)) put)

    -- left of an entry, at it, beyond it, or among those that follow it
    module _ (o : IsTotalOrder R) {es l : List (K × X)} {e : K × X} {m r : List (K × X)} (forked : IsForked es l e m r) where
      parted : is_sorted R (l ++ e ∷ (m ++ r)) ≡ true
      parted = ap (is_sorted R) (sym forked.whole) ∙ forked.rising

      pub sought_left : R q e.0 ≡ Less → IsSought es l (λ p. p ++ e ∷ (m ++ r))
      sought_left low =
          let split = left_of R o q l e (m ++ r) parted low in
          record {
            rising = split.rising;
            smaller = left_shorter es l e (m ++ r) forked.whole;
            find_is = ap (find R q) forked.whole ∙ split.find_is;
            put_is = λ v. ap (put_given R q v) forked.whole ∙ split.put_is v;
          }

      pub find_here : R q e.0 ≡ Equal → find R q es ≡ Some e.1
      find_here tie = let split = here_at R o q l e (m ++ r) parted tie in ap (find R q) forked.whole ∙ split.find_is

      pub put_here : R q e.0 ≡ Equal → (v : X) → put R q v es ≡ l ++ (e.0, v) ∷ (m ++ r)
      put_here tie v = let split = here_at R o q l e (m ++ r) parted tie in ap (put R q v) forked.whole ∙ split.put_is v

      pub given_at : (f : X → X) (given : Option X) → R q e.0 ≡ Equal → changed_or_given R q f given es ≡ l ++ (e.0, f e.1) ∷ (m ++ r)
      given_at f given tie = ap (changed_or_given R q f given) forked.whole ∙ given_here R q f o given l e (m ++ r) parted tie

      pub sought_beyond : R q e.0 ≡ Greater → IsSought es (m ++ r) (λ p. l ++ e ∷ p)
      sought_beyond more =
          let split = right_of R o q l e (m ++ r) parted more in
          record {
            rising = split.rising;
            smaller = right_shorter es l e (m ++ r) forked.whole;
            find_is = ap (find R q) forked.whole ∙ split.find_is;
            put_is = λ v. ap (put_given R q v) forked.whole ∙ split.put_is v;
          }

      pub sought_among : R q e.0 ≡ Greater → below_all R q r ≡ true → IsSought es m (λ p. l ++ e ∷ (p ++ r))
      sought_among more within =
          let split = between_of R o q l e m r parted more (λ _. within) in
          let size = ap length forked.whole ∙ length_parts l e m r in
          record {
            rising = split.rising;
            smaller = omega (arith, size);
            find_is = ap (find R q) forked.whole ∙ split.find_is;
            put_is = λ v. ap (put_given R q v) forked.whole ∙ split.put_is v;
          }

      -- a key that isn't there, and is not smaller than the entry, is greater
      pub not_smaller : find R q es ≡ None → is_lt (R q e.0) ≡ false → R q e.0 ≡ Greater
      not_smaller absent more = by (R q e.0) refl more
        where
          by : (s : Ordering) → R q e.0 ≡ s → is_lt s ≡ false → s ≡ Greater
          by Less is h = cc
          by Equal tie h = cc (sym absent ∙ find_here tie)
          by Greater is h = refl

      -- a value that changes, on either side or at the entry
      pub changed_before : (f : X → X) → R q e.0 ≡ Less → changed_at R q f es ≡ changed_at R q f l ++ e ∷ (m ++ r)
      changed_before f low = ap (changed_at R q f) forked.whole ∙ changed_left R q f o l e (m ++ r) parted low

      pub changed_there : (f : X → X) → R q e.0 ≡ Equal → changed_at R q f es ≡ l ++ (e.0, f e.1) ∷ (m ++ r)
      changed_there f tie = ap (changed_at R q f) forked.whole ∙ changed_here R q f o l e (m ++ r) parted tie

      pub changed_after : (f : X → X) → R q e.0 ≡ Greater → changed_at R q f es ≡ l ++ e ∷ changed_at R q f (m ++ r)
      changed_after f more = ap (changed_at R q f) forked.whole ∙ changed_right R q f o l e (m ++ r) parted more
