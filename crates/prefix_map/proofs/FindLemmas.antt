-- Look-ups that ask at a fork for no more than the length and the address of a prefix.
use Rattle.std.proofs.Common.{◌≡◌, ◌≤◌, ◌<◌, ◌++◌, ◌∷◌, ◌&&◌, cond, false, List, [], Option, inl, inr, sym, ap, ◌∙◌, refl, arith}
use Rattle.std.specs.Prelude.{Some, None, nat_eq}
use Rattle.std.proofs.lemmas.Bool.{cases_Bool, eq-eqb, false≢true}
use Rattle.net_types.proofs.OrderLemmas.{prefix_tie}
use Rattle.std.specs.Cmp.{nat_cmp_is}
use Rattle.std.specs.Cmp.Derive.{both_true}
use Rattle.std.specs.Ordering.{nat_cmp, ordering_then, is_eq}
use Rattle.std.specs.declared.cmp.Ordering.TheVariants.{Less, Equal, Greater}
use Rattle.std.specs.FinMap.Entries.{find}
use Rattle.net_types.specs.Keys.{prefix_cmp}
use Rattle.net_types.specs.declared.prefix.Prefix.{Prefix}
use Rattle.prefix_map.specs.Entries.{own}
use Rattle.prefix_map.specs.Halves.{middle, LiesLow, LiesHigh}
use Rattle.prefix_map.specs.Tries.{AllKeys}
use Rattle.prefix_map.proofs.HalfLemmas.{begins}
use Rattle.prefix_map.proofs.ListLemmas.{all_of, all_append, IsPast, IsBefore, find_past, find_before}
use Rattle.prefix_map.proofs.StandLemmas.{before_by_address, turned}

-- prefixes of other lengths are others
others_by_len : (q p : Prefix) → nat_cmp q.len p.len ≡ Greater → is_eq (prefix_cmp q p) ≡ false
others_by_len q p is =
    ap (λ r. is_eq (ordering_then (nat_cmp q.address.0 p.address.0) r)) is
    ∙ (elim (nat_cmp q.address.0 p.address.0) as (λ r. is_eq (ordering_then r Greater) ≡ false) [ Less ↦ refl | Equal ↦ refl | Greater ↦ refl ])

shorter_by_len : (q p : Prefix) → nat_cmp q.len p.len ≡ Less → is_eq (prefix_cmp q p) ≡ false
shorter_by_len q p is =
    ap (λ r. is_eq (ordering_then (nat_cmp q.address.0 p.address.0) r)) is
    ∙ (elim (nat_cmp q.address.0 p.address.0) as (λ r. is_eq (ordering_then r Less) ≡ false) [ Less ↦ refl | Equal ↦ refl | Greater ↦ refl ])

longer_is_other : (q p : Prefix) → p.len < q.len → is_eq (prefix_cmp q p) ≡ false
longer_is_other q p more = others_by_len q p (sym (nat_cmp_is q.len p.len Greater more))

shorter_is_other : (q p : Prefix) → q.len < p.len → is_eq (prefix_cmp q p) ≡ false
shorter_is_other q p less = shorter_by_len q p (sym (nat_cmp_is q.len p.len Less less))

-- so are those that differ in the address or the length
differing_is_other : (q p : Prefix) → (nat_eq p.address.0 q.address.0 && nat_eq p.len q.len) ≡ false → is_eq (prefix_cmp q p) ≡ false
differing_is_other q p differ = elim (cases_Bool (is_eq (prefix_cmp q p))) [
  | inl same ↦
      let one = prefix_tie q p same in
      absurd (false≢true (sym differ ∙ both_true (eq-eqb _ _ (sym (ap (λ x. x.address.0) one))) (eq-eqb _ _ (sym (ap (λ x. x.len) one)))))
  | inr other ↦ other
]

find_beside : {V : Type 0} (q at : Prefix) (held : Option V) (es : List (Prefix × V)) → is_eq (prefix_cmp q at) ≡ false → find prefix_cmp q (own at held ++ es) ≡ find prefix_cmp q es
find_beside q at None es other = refl
find_beside q at (Some v) es other = ap (λ b. cond b (Some v) (find prefix_cmp q es)) other

find_nowhere : {V : Type 0} (q : Prefix) (es : List (Prefix × V)) → AllKeys (λ p. is_eq (prefix_cmp q p) ≡ false) es → find prefix_cmp q es ≡ None
find_nowhere q [] h = refl
find_nowhere q (e ∷ es) h = ap (λ b. cond b (Some e.1) (find prefix_cmp q es)) h.0 ∙ find_nowhere q es h.1

module _ {V : Type 0} (at : Prefix) (held : Option V) (l h : List (Prefix × V)) (low : AllKeys (LiesLow at) l) (high : AllKeys (LiesHigh at) h) (q : Prefix) where
  -- a longer prefix stands in the half that its address says, if anywhere
  pub find_low : at.len < q.len → q.address.0 < middle at → find prefix_cmp q (own at held ++ (l ++ h)) ≡ find prefix_cmp q l
  find_low longer less =
      let before : IsBefore q h = all_of (λ p (is : LiesHigh at p). let from = is.from in before_by_address q p (omega (arith, less, from))) h high in
      find_beside q at held (l ++ h) (longer_is_other q at longer) ∙ find_before q l h before

  pub find_high : at.len < q.len → middle at ≤ q.address.0 → find prefix_cmp q (own at held ++ (l ++ h)) ≡ find prefix_cmp q h
  find_high longer more =
      let past : IsPast q l = all_of (λ p (is : LiesLow at p). let until = is.until in let some = begins p in turned p q (before_by_address p q (omega (arith, more, until, some)))) l low in
      find_beside q at held (l ++ h) (longer_is_other q at longer) ∙ find_past q l h past

  -- one that is no longer is the fork's own, or none
  pub find_other : q.len ≤ at.len → (nat_eq at.address.0 q.address.0 && nat_eq at.len q.len) ≡ false → find prefix_cmp q (own at held ++ (l ++ h)) ≡ None
  find_other short differ =
      find_beside q at held (l ++ h) (differing_is_other q at differ)
      ∙ find_nowhere q (l ++ h) (all_append _ l h
      (all_of (λ p (is : LiesLow at p). let longer = is.longer in shorter_is_other q p (omega (arith, short, longer))) l low)
      (all_of (λ p (is : LiesHigh at p). let longer = is.longer in shorter_is_other q p (omega (arith, short, longer))) h high))
