-- What a look-up, a new value and a removal find among the entries of a node, by where the prefix stands.
use Rattle.std.proofs.Common.{◌≡◌, ◌≤◌, ◌<◌, cond, false, Option, List, [], ◌∷◌, ◌++◌, sym, ap, ◌∙◌, refl, arith}
use Rattle.std.specs.Prelude.{Some, None, not}
use Rattle.std.specs.Cmp.{nat_cmp_is}
use Rattle.std.specs.Ordering.{nat_cmp, ordering_then, is_lt, is_eq}
use Rattle.std.specs.declared.cmp.Ordering.TheVariants.{Less, Equal, Greater}
use Rattle.std.specs.FinMap.Entries.{find, put, by_order}
use Rattle.std.proofs.lemmas.List.{append-nil}
use Rattle.net_types.specs.Keys.{prefix_cmp}
use Rattle.net_types.specs.declared.prefix.Prefix.{Prefix}
use Rattle.prefix_map.specs.Entries.{own, without, above}
use Rattle.net_types.specs.Routes.{first_of_list}
use Rattle.prefix_map.specs.Halves.{past, middle, LiesIn, LiesLow, LiesHigh}
use Rattle.prefix_map.specs.Tries.{AllKeys}
use Rattle.prefix_map.proofs.HalfLemmas.{begins}
use Rattle.prefix_map.proofs.ListLemmas.{all_of, all_append, IsPast, IsBefore, find_past, put_past, without_past, above_past, find_none, put_front, without_none, above_all, find_before, put_before, without_before, above_before}
use Rattle.prefix_map.proofs.StandLemmas.{low_in, high_in, itself_in, low_after, high_after, low_before_high, low_before, high_before, in_low, in_high, apart_before, apart_after, before_in, before_by_address, turned}
use Rattle.net_types.proofs.TieLemmas.{less}

-- a prefix's value, and the entries with another value for it and without it
pub record IsTold {V : Type 0} (q : Prefix) (es : List (Prefix × V)) (value : Option V) (changed : V → List (Prefix × V)) (rest : List (Prefix × V)) : Type 0 where
  pub find_is : find prefix_cmp q es ≡ value
  pub put_is : (v : V) → put prefix_cmp q v es ≡ changed v
  pub without_is : without q es ≡ rest

own_past : {V : Type 0} (at q : Prefix) (held : Option V) → prefix_cmp q at ≡ Greater → IsPast q (own at held)
own_past at q None greater = tt
own_past at q (Some v) greater = (greater, tt)

own_in : {V : Type 0} (at : Prefix) (held : Option V) → AllKeys (LiesIn at) (own at held)
own_in at None = tt
own_in at (Some v) = (itself_in at, tt)

pub tied_itself : (p : Prefix) → prefix_cmp p p ≡ Equal
tied_itself p =
    ap (λ r. ordering_then r (nat_cmp p.len p.len)) (sym (nat_cmp_is p.address.0 p.address.0 Equal refl)) ∙ sym (nat_cmp_is p.len p.len Equal refl)

pub told_before : {V : Type 0} (q : Prefix) (es : List (Prefix × V)) → IsBefore q es → IsTold q es None (λ v. (q, v) ∷ es) es
told_before q es before = record { find_is = find_none q es before; put_is = λ v. put_front q v es before; without_is = without_none q es before }

pub told_after : {V : Type 0} (q : Prefix) (es : List (Prefix × V)) → IsPast q es → IsTold q es None (λ v. es ++ (q, v) ∷ []) es
told_after q es past = record {
  find_is = ap (find prefix_cmp q) (sym (append-nil es)) ∙ find_past q es [] past;
  put_is = λ v. ap (put prefix_cmp q v) (sym (append-nil es)) ∙ put_past q v es [] past;
  without_is = ap (without q) (sym (append-nil es)) ∙ without_past q es [] past ∙ append-nil es;
}

module _ {V : Type 0} (at : Prefix) (held : Option V) (l h : List (Prefix × V)) (low : AllKeys (LiesLow at) l) (high : AllKeys (LiesHigh at) h) where
  pub all_in : AllKeys (LiesIn at) (own at held ++ (l ++ h))
  all_in = all_append (LiesIn at) (own at held) (l ++ h) (own_in at held) (all_append (LiesIn at) l h (all_of (low_in at) l low) (all_of (high_in at) h high))

  pub told_low : (q : Prefix) → LiesLow at q → IsTold q (own at held ++ (l ++ h)) (find prefix_cmp q l) (λ v. own at held ++ (put prefix_cmp q v l ++ h)) (own at held ++ (without q l ++ h))
  told_low q there =
      let own_first : IsPast q (own at held) = own_past at q held (low_after at q there) in
      let before : IsBefore q h = all_of (λ p is. low_before_high at q p there is) h high in
      record {
        find_is = find_past q (own at held) (l ++ h) own_first ∙ find_before q l h before;
        put_is = λ v. put_past q v (own at held) (l ++ h) own_first ∙ ap (λ es. own at held ++ es) (put_before q v l h before);
        without_is = without_past q (own at held) (l ++ h) own_first ∙ ap (λ es. own at held ++ es) (without_before q l h before);
      }

  pub told_high : (q : Prefix) → LiesHigh at q → IsTold q (own at held ++ (l ++ h)) (find prefix_cmp q h) (λ v. own at held ++ (l ++ put prefix_cmp q v h)) (own at held ++ (l ++ without q h))
  told_high q there =
      let own_first : IsPast q (own at held) = own_past at q held (high_after at q there) in
      let past : IsPast q l = all_of (λ p is. turned p q (low_before_high at p q is there)) l low in
      record {
        find_is = find_past q (own at held) (l ++ h) own_first ∙ find_past q l h past;
        put_is = λ v. put_past q v (own at held) (l ++ h) own_first ∙ ap (λ es. own at held ++ es) (put_past q v l h past);
        without_is = without_past q (own at held) (l ++ h) own_first ∙ ap (λ es. own at held ++ es) (without_past q l h past);
      }

  pub all_after : IsBefore at (l ++ h)
  all_after = all_append (λ p. prefix_cmp at p ≡ Less) l h (all_of (low_before at) l low) (all_of (high_before at) h high)

  -- places of the prefix itself, of one that contains all, and of one apart
  pub told_over_low : (q : Prefix) → LiesLow q at → AllKeys (LiesLow q) (own at held ++ (l ++ h))
  told_over_low q there = all_of (λ p is. in_low q at p there is) (own at held ++ (l ++ h)) all_in

  pub told_over_high : (q : Prefix) → LiesHigh q at → AllKeys (LiesHigh q) (own at held ++ (l ++ h))
  told_over_high q there = all_of (λ p is. in_high q at p there is) (own at held ++ (l ++ h)) all_in

  pub all_before : (q : Prefix) → past q ≤ at.address.0 → IsBefore q (own at held ++ (l ++ h))
  all_before q there = all_of (λ p is. apart_before at p q there is) (own at held ++ (l ++ h)) all_in

  pub all_past : (q : Prefix) → past at ≤ q.address.0 → IsPast q (own at held ++ (l ++ h))
  all_past q there = all_of (λ p is. apart_after at p q there is) (own at held ++ (l ++ h)) all_in

  -- a prefix that stands elsewhere has no value
  pub out_over_low : (q : Prefix) → LiesLow q at → IsTold q (own at held ++ (l ++ h)) None (λ v. (q, v) ∷ (own at held ++ (l ++ h))) (own at held ++ (l ++ h))
  out_over_low q there = told_before q (own at held ++ (l ++ h)) (all_of (low_before q) (own at held ++ (l ++ h)) (told_over_low q there))

  pub out_over_high : (q : Prefix) → LiesHigh q at → IsTold q (own at held ++ (l ++ h)) None (λ v. (q, v) ∷ (own at held ++ (l ++ h))) (own at held ++ (l ++ h))
  out_over_high q there = told_before q (own at held ++ (l ++ h)) (all_of (high_before q) (own at held ++ (l ++ h)) (told_over_high q there))

  pub out_before : (q : Prefix) → past q ≤ at.address.0 → IsTold q (own at held ++ (l ++ h)) None (λ v. (q, v) ∷ (own at held ++ (l ++ h))) (own at held ++ (l ++ h))
  out_before q there = told_before q (own at held ++ (l ++ h)) (all_before q there)

  pub out_after : (q : Prefix) → past at ≤ q.address.0 → IsTold q (own at held ++ (l ++ h)) None (λ v. (own at held ++ (l ++ h)) ++ (q, v) ∷ []) (own at held ++ (l ++ h))
  out_after q there = told_after q (own at held ++ (l ++ h)) (all_past q there)

  -- ---- what is above a prefix

  pub above_before_all : (q : Prefix) → prefix_cmp q at ≡ Less → above q (own at held ++ (l ++ h)) ≡ own at held ++ (l ++ h)
  above_before_all q less = above_all q (own at held ++ (l ++ h)) (all_of (λ p is. before_in q at p less is) (own at held ++ (l ++ h)) all_in)

  above_own : (q : Prefix) (es : List (Prefix × V)) → is_lt (prefix_cmp q at) ≡ false → above q (own at held ++ es) ≡ above q es
  above_own q es not_less = own_case held
    where
      own_case : (o : Option V) → above q (own at o ++ es) ≡ above q es
      own_case None = refl
      own_case (Some v) = ap (λ b. cond b ((at, v) ∷ above q es) (above q es)) not_less

  pub above_low : (q : Prefix) → is_lt (prefix_cmp q at) ≡ false → q.address.0 < middle at → above q (own at held ++ (l ++ h)) ≡ above q l ++ h
  above_low q not_less less =
      above_own q (l ++ h) not_less
      ∙ above_before q l h (all_of (λ p (is : LiesHigh at p). let from = is.from in before_by_address q p (omega (arith, less, from))) h high)

  pub above_high : (q : Prefix) → is_lt (prefix_cmp q at) ≡ false → middle at ≤ q.address.0 → above q (own at held ++ (l ++ h)) ≡ above q h
  above_high q not_less more =
      above_own q (l ++ h) not_less
      ∙ above_past q l h (all_of (λ p (is : LiesLow at p). let until = is.until in let some = begins p in turned p q (before_by_address p q (omega (arith, more, until, some)))) l low)

pub told_here : {V : Type 0} (at : Prefix) (held : Option V) (l h : List (Prefix × V)) → AllKeys (LiesLow at) l → AllKeys (LiesHigh at) h → IsTold at (own at held ++ (l ++ h)) held (λ v. own at (Some v) ++ (l ++ h)) (own at None ++ (l ++ h))
told_here at None l h low high = told_before at (l ++ h) (all_after at None l h low high)
told_here at (Some w) l h low high =
    let after = all_after at (Some w) l h low high in
    record {
      find_is = ap (λ r. cond (is_eq r) (Some w) (find prefix_cmp at (l ++ h))) (tied_itself at);
      put_is = λ v. ap (λ r. by_order r ((at, v) ∷ (at, w) ∷ (l ++ h)) ((at, v) ∷ (l ++ h)) ((at, w) ∷ put prefix_cmp at v (l ++ h))) (tied_itself at);
      without_is = ap (λ r. cond (not (is_eq r)) ((at, w) ∷ without at (l ++ h)) (without at (l ++ h))) (tied_itself at) ∙ without_none at (l ++ h) after;
    }

-- ---- the first of two lists
pub none_first : {A : Type 0} (l h : List A) → first_of_list l ≡ None → first_of_list (l ++ h) ≡ first_of_list h
none_first [] h e = refl
none_first (x ∷ l) h e = cc

pub some_first : {A : Type 0} (l h : List A) (x : A) → first_of_list l ≡ Some x → first_of_list (l ++ h) ≡ Some x
some_first [] h x e = cc
some_first (y ∷ l) h x e = e
