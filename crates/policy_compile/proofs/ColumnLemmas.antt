-- Keys with the sets of the places at which they are given.
use Rattle.std.proofs.Common.{◌≡◌, ◌<◌, ◌⊎◌, ℕ, zero, suc, Bool, true, false, ◌||◌, cond, slice_set, Some, None, List, [], ◌∷◌, ◌++◌, length, unwrap_or, refl, inl, inr, sym, ap, ◌∙◌, subst}
use Rattle.std.proofs.Common.{slice_index_or as get_or}
use Rattle.std.specs.List.{slice_get}
use Rattle.std.specs.Option.{option_map}
use Rattle.std.proofs.lemmas.Bool.{cases_Bool, cases_lt}
use Rattle.std.proofs.lemmas.Option.{slice_get-get_or, slice_get_past, slice_get_within}
use Rattle.std.proofs.lemmas.List.{append-nil}
use Rattle.net_types.specs.Sets.{Member, SameMembers}
use Rattle.net_types.proofs.SetLemmas
use Rattle.policy_compile.specs.declared.memo.Noted.{Noted}
use Rattle.policy_compile.specs.declared.columns.Pair.{Pair}
use Rattle.policy_compile.specs.declared.columns.Column.{Column}
use Rattle.policy_compile.specs.declared.columns.Key.{Key}
use Rattle.place_sets.specs.Places.{has_place}
use Rattle.policy_compile.specs.Columns.{AreBelow, AreCarried, AreColumns, IsCarried, IsPlaceOf, IsUnion, KeepSets, Places, given, set_at}

-- ---- sets that keep their numbers

pub inside-kept : (old new : List Places) (n : ℕ) → KeepSets old new → n < length old → n < length new
inside-kept old new n kept inside = slice_get_within new n (get_or old n []) (kept n (get_or old n []) (slice_get-get_or old n [] inside))

pub set-kept : (old new : List Places) (n : ℕ) → KeepSets old new → n < length old → (k : ℕ) → set_at new n k ≡ set_at old n k
set-kept old new n kept inside k =
    let there = slice_get-get_or old n [] inside in
    ap (λ o. has_place (unwrap_or o []) k) (kept n (get_or old n []) there ∙ sym there)

pub given-kept : (old new : List Places) (cs : List Column) → KeepSets old new → ((c : Column) → Member c cs → c.set < length old) → (k : ℕ) → given new cs k ≡ given old cs k
given-kept old new [] kept inside k = refl
given-kept old new (c ∷ cs) kept inside k =
    ap (λ b. cond b (c.key ∷ given new cs k) (given new cs k)) (set-kept old new c.set kept (inside c (inl refl)) k)
    ∙ ap (λ xs. cond (set_at old c.set k) (c.key ∷ xs) xs) (given-kept old new cs kept (λ d m. inside d (inr m)) k)

union-kept : (old new : List Places) (p : Pair) (n : ℕ) → KeepSets old new → IsUnion old p n → IsUnion new p n
union-kept old new p n kept is = record {
  first = inside-kept old new p.first kept is.first;
  second = inside-kept old new p.second kept is.second;
  inside = inside-kept old new n kept is.inside;
  is = λ k. set-kept old new n kept is.inside k ∙ is.is k
      ∙ ap (λ b. b || set_at old p.second k) (sym (set-kept old new p.first kept is.first k))
      ∙ ap (λ b. set_at new p.first k || b) (sym (set-kept old new p.second kept is.second k));
}

pub columns-kept : (old new : List Places) (cs : List Column) (unions : List (Noted Pair ℕ)) (places : List (Noted Key ℕ)) → KeepSets old new → AreColumns old cs unions places → AreColumns new cs unions places
columns-kept old new cs unions places kept are = record {
  inside = λ c m. inside-kept old new c.set kept (are.inside c m);
  unions_are = λ e m. union-kept old new e.key e.value kept (are.unions_are e m);
  places_are = are.places_are;
}

-- ---- one more is noted

pub union-noted : (sets : List Places) (cs : List Column) (unions news : List (Noted Pair ℕ)) (places : List (Noted Key ℕ)) (p : Pair) (n : ℕ) → AreColumns sets cs unions places
    → ((e : Noted Pair ℕ) → Member e news → Member e unions ⊎ (e ≡ record { key = p; value = n })) → IsUnion sets p n → AreColumns sets cs news places
union-noted sets cs unions news places p n are noted is = record {
  inside = are.inside;
  unions_are = λ e m. elim (noted e m) [ inl k ↦ are.unions_are e k | inr same ↦ subst (λ (x : Noted Pair ℕ). IsUnion sets x.key x.value) (sym same) is ];
  places_are = are.places_are;
}

pub place-noted : (sets : List Places) (cs : List Column) (unions : List (Noted Pair ℕ)) (places news : List (Noted Key ℕ)) (key : Key) (n : ℕ) → AreColumns sets cs unions places
    → ((e : Noted Key ℕ) → Member e news → Member e places ⊎ (e ≡ record { key = key; value = n })) → IsPlaceOf cs key n → AreColumns sets cs unions news
place-noted sets cs unions places news key n are noted is = record {
  inside = are.inside;
  unions_are = are.unions_are;
  places_are = λ e m. elim (noted e m) [ inl k ↦ are.places_are e k | inr same ↦ subst (λ (x : Noted Key ℕ). IsPlaceOf cs x.key x.value) (sym same) is ];
}

-- ---- a column more

pub given-pushed : (sets : List Places) (cs : List Column) (c : Column) (k : ℕ) → given sets (cs ++ c ∷ []) k ≡ given sets cs k ++ cond (set_at sets c.set k) (c.key ∷ []) []
given-pushed sets [] c k = refl
given-pushed sets (x ∷ cs) c k = elim (cases_Bool (set_at sets x.set k)) [
  | inl here ↦ rw here (ap (λ xs. x.key ∷ xs) (given-pushed sets cs c k))
  | inr away ↦ rw away (given-pushed sets cs c k)
]

place-pushed : (cs : List Column) (c : Column) (n : ℕ) (x : Key) → option_map (λ (d : Column). d.key) (slice_get cs n) ≡ Some x → option_map (λ (d : Column). d.key) (slice_get (cs ++ c ∷ []) n) ≡ Some x
place-pushed [] c n x e = absurd (cc)
place-pushed (d ∷ cs) c zero x e = e
place-pushed (d ∷ cs) c (suc n) x e = place-pushed cs c n x e

pub last-place : (cs : List Column) (c : Column) → slice_get (cs ++ c ∷ []) (length cs) ≡ Some c
last-place [] c = refl
last-place (d ∷ cs) c = last-place cs c

pub columns-pushed : (sets : List Places) (cs : List Column) (unions : List (Noted Pair ℕ)) (places : List (Noted Key ℕ)) (c : Column) → c.set < length sets → AreColumns sets cs unions places → AreColumns sets (cs ++ c ∷ []) unions places
columns-pushed sets cs unions places c inside are = record {
  inside = λ d m. elim (SetLemmas.Member-append_cases cs (c ∷ []) d m) [
    | inl old ↦ are.inside d old
    | inr new ↦ elim new [ inl e ↦ subst (λ (x : Column). x.set < length sets) (sym e) inside | inr none ↦ elim none [ ] ]
  ];
  unions_are = are.unions_are;
  places_are = λ e m. place-pushed cs c e.value e.key (are.places_are e m);
}

-- the same, where memory may have been wanting
pub columns-if_pushed : (b : Bool) (sets : List Places) (cs ds : List Column) (unions : List (Noted Pair ℕ)) (places : List (Noted Key ℕ)) (c : Column) → ds ≡ cond b (cs ++ c ∷ []) cs → c.set < length sets
    → AreColumns sets cs unions places → AreColumns sets ds unions places
columns-if_pushed true sets cs ds unions places c is inside are = subst (λ xs. AreColumns sets xs unions places) (sym is) (columns-pushed sets cs unions places c inside are)
columns-if_pushed false sets cs ds unions places c is inside are = subst (λ xs. AreColumns sets xs unions places) (sym is) are

-- ---- a union

pub set-there : (sets : List Places) (n : ℕ) (s : Places) → slice_get sets n ≡ Some s → (k : ℕ) → set_at sets n k ≡ has_place s k
set-there sets n s is k = ap (λ o. has_place (unwrap_or o []) k) is

pub set-read : (sets : List Places) (n : ℕ) (s : Places) → n < length sets → s ≡ get_or sets n s → (k : ℕ) → set_at sets n k ≡ has_place s k
set-read sets n s inside is = set-there sets n s (slice_get-get_or sets n s inside ∙ ap Some (sym is))

pub union-made : (old new : List Places) (p : Pair) (n : ℕ) (a b both : Places) → KeepSets old new → p.first < length old → p.second < length old
    → a ≡ get_or old p.first a → b ≡ get_or old p.second b → ((k : ℕ) → has_place both k ≡ (has_place a k || has_place b k)) → slice_get new n ≡ Some both → IsUnion new p n
union-made old new p n a b both kept first second is_a is_b is number = record {
  first = inside-kept old new p.first kept first;
  second = inside-kept old new p.second kept second;
  inside = slice_get_within new n both number;
  is = λ k. set-there new n both number k ∙ is k
      ∙ ap (λ x. x || has_place b k) (sym (set-kept old new p.first kept first k ∙ set-read old p.first a first is_a k))
      ∙ ap (λ x. set_at new p.first k || x) (sym (set-kept old new p.second kept second k ∙ set-read old p.second b second is_b k));
}

-- ---- a column that gets another set

pub place-inside : (cs : List Column) (n : ℕ) (x : Key) → option_map (λ (d : Column). d.key) (slice_get cs n) ≡ Some x → n < length cs
place-inside cs n x e = elim (cases_lt n (length cs)) [ inl inside ↦ inside | inr past ↦ absurd (none (slice_get_past cs n past) e) ]
  where
    none : slice_get cs n ≡ None → option_map (λ (d : Column). d.key) (slice_get cs n) ≡ Some x → ⊥
    none f g = absurd (let h : None ≡ Some x = sym (ap (option_map (λ (d : Column). d.key)) f) ∙ g in cc)

pub item-read : (cs : List Column) (n : ℕ) (x : Key) (c : Column) → option_map (λ (d : Column). d.key) (slice_get cs n) ≡ Some x → slice_get cs n ≡ Some c → c.key ≡ x
item-read cs n x c e f = let h : Some c.key ≡ Some x = sym (ap (option_map (λ (d : Column). d.key)) f) ∙ e in cc

member-set : (cs : List Column) (n : ℕ) (c d : Column) → Member d (slice_set cs n c) → Member d cs ⊎ (d ≡ c)
member-set [] n c d m = inl m
member-set (x ∷ cs) zero c d (inl e) = inr e
member-set (x ∷ cs) zero c d (inr m) = inl (inr m)
member-set (x ∷ cs) (suc n) c d (inl e) = inl (inl e)
member-set (x ∷ cs) (suc n) c d (inr m) = elim (member-set cs n c d m) [ inl k ↦ inl (inr k) | inr e ↦ inr e ]

item-set : (cs : List Column) (n k : ℕ) (c : Column) (x : Key) → option_map (λ (d : Column). d.key) (slice_get cs n) ≡ Some c.key → option_map (λ (d : Column). d.key) (slice_get cs k) ≡ Some x
    → option_map (λ (d : Column). d.key) (slice_get (slice_set cs n c) k) ≡ Some x
item-set [] n k c x e f = f
item-set (d ∷ cs) zero zero c x e f = sym e ∙ f
item-set (d ∷ cs) zero (suc k) c x e f = f
item-set (d ∷ cs) (suc n) zero c x e f = f
item-set (d ∷ cs) (suc n) (suc k) c x e f = item-set cs n k c x e f

pub columns-set : (sets : List Places) (cs : List Column) (unions : List (Noted Pair ℕ)) (places : List (Noted Key ℕ)) (n : ℕ) (c : Column) → c.set < length sets
    → option_map (λ (d : Column). d.key) (slice_get cs n) ≡ Some c.key → AreColumns sets cs unions places → AreColumns sets (slice_set cs n c) unions places
columns-set sets cs unions places n c inside there are = record {
  inside = λ d m. elim (member-set cs n c d m) [ inl k ↦ are.inside d k | inr e ↦ subst (λ (x : Column). x.set < length sets) (sym e) inside ];
  unions_are = are.unions_are;
  places_are = λ e m. item-set cs n e.value c e.key there (are.places_are e m);
}

-- one more, where it stands already or didn't
pub one-more : {A : Type 0} (x : A) (xs : List A) (a b : Bool) → SameMembers (cond (a || b) (x ∷ xs) xs) (cond a (x ∷ xs) xs ++ cond b (x ∷ []) [])
one-more x xs true true = record {
  onto = λ z m. SetLemmas.Member-append_left (x ∷ xs) (x ∷ []) z m;
  back = λ z m. elim (SetLemmas.Member-append_cases (x ∷ xs) (x ∷ []) z m) [ inl k ↦ k | inr k ↦ elim k [ inl e ↦ inl e | inr none ↦ elim none [ ] ] ];
}
one-more x xs true false = SetLemmas.same_eq (sym (append-nil (x ∷ xs)))
one-more x xs false true = record {
  onto = λ z m. elim m [ inl e ↦ SetLemmas.Member-append_right xs (x ∷ []) z (inl e) | inr k ↦ SetLemmas.Member-append_left xs (x ∷ []) z k ];
  back = λ z m. elim (SetLemmas.Member-append_cases xs (x ∷ []) z m) [ inl k ↦ inr k | inr k ↦ elim k [ inl e ↦ inl e | inr none ↦ elim none [ ] ] ];
}
one-more x xs false false = SetLemmas.same_eq (sym (append-nil xs))

pub same-before : {A : Type 0} (x : A) (b : Bool) (xs ys zs : List A) → SameMembers xs (ys ++ zs) → SameMembers (cond b (x ∷ xs) xs) (cond b (x ∷ ys) ys ++ zs)
same-before x true xs ys zs same = SetLemmas.same_append (SetLemmas.same_refl (x ∷ [])) same
same-before x false xs ys zs same = same

given-set : (sets : List Places) (cs : List Column) (n : ℕ) (c : Column) (both m : ℕ) (k : ℕ) → slice_get cs n ≡ Some c → set_at sets both k ≡ (set_at sets c.set k || set_at sets m k)
    → SameMembers (given sets (slice_set cs n (record { key = c.key; set = both })) k) (given sets cs k ++ cond (set_at sets m k) (c.key ∷ []) [])
given-set sets [] n c both m k at is = absurd (cc)
given-set sets (d ∷ cs) zero c both m k at is =
    let same : d ≡ c = cc in
    subst (λ (x : Column). SameMembers (cond (set_at sets both k) (c.key ∷ given sets cs k) (given sets cs k)) (cond (set_at sets x.set k) (x.key ∷ given sets cs k) (given sets cs k) ++ cond (set_at sets m k) (c.key ∷ []) [])) (sym same)
    (subst (λ b. SameMembers (cond b (c.key ∷ given sets cs k) (given sets cs k)) (cond (set_at sets c.set k) (c.key ∷ given sets cs k) (given sets cs k) ++ cond (set_at sets m k) (c.key ∷ []) [])) (sym is)
    (one-more c.key (given sets cs k) (set_at sets c.set k) (set_at sets m k)))
given-set sets (d ∷ cs) (suc n) c both m k at is =
    same-before d.key (set_at sets d.set k) (given sets (slice_set cs n (record { key = c.key; set = both })) k) (given sets cs k) (cond (set_at sets m k) (c.key ∷ []) []) (given-set sets cs n c both m k at is)

-- the same, where sets have come
pub given-added : (old new : List Places) (cs : List Column) (n : ℕ) (c : Column) (x : Key) (both m : ℕ) → KeepSets old new → ((d : Column) → Member d cs → d.set < length old) → m < length old
    → slice_get cs n ≡ Some c → c.key ≡ x → IsUnion new (record { first = c.set; second = m }) both → (k : ℕ)
    → SameMembers (given new (slice_set cs n (record { key = c.key; set = both })) k) (given old cs k ++ cond (set_at old m k) (x ∷ []) [])
given-added old new cs n c x both m kept inside there at item union k =
    SetLemmas.same_trans (given-set new cs n c both m k at (union.is k))
    (SetLemmas.same_eq (ap (λ xs. xs ++ cond (set_at new m k) (c.key ∷ []) []) (given-kept old new cs kept inside k)
    ∙ ap (λ b. given old cs k ++ cond b (c.key ∷ []) []) (set-kept old new m kept there k)
    ∙ ap (λ i. given old cs k ++ cond (set_at old m k) (i ∷ []) []) item))

-- ---- numbers below one

pub below-pushed : (n : ℕ) (cs : List Column) (c : Column) → AreBelow n cs → c.key.number < n → AreBelow n (cs ++ c ∷ [])
below-pushed n cs c are inside = λ d m. elim (SetLemmas.Member-append_cases cs (c ∷ []) d m) [
  | inl old ↦ are d old
  | inr new ↦ elim new [ inl e ↦ subst (λ (x : Column). x.key.number < n) (sym e) inside | inr none ↦ elim none [ ] ]
]

-- the same, where memory may have been wanting
pub below-if_pushed : (b : Bool) (n : ℕ) (cs ds : List Column) (c : Column) → ds ≡ cond b (cs ++ c ∷ []) cs → AreBelow n cs → c.key.number < n → AreBelow n ds
below-if_pushed true n cs ds c is are inside = subst (AreBelow n) (sym is) (below-pushed n cs c are inside)
below-if_pushed false n cs ds c is are inside = subst (AreBelow n) (sym is) are

pub below-set : (n : ℕ) (cs : List Column) (k : ℕ) (c : Column) → AreBelow n cs → c.key.number < n → AreBelow n (slice_set cs k c)
below-set n cs k c are inside = λ d m. elim (member-set cs k c d m) [ inl old ↦ are d old | inr e ↦ subst (λ (x : Column). x.key.number < n) (sym e) inside ]

-- ---- sets of another table

pub carried-kept : (sets old new : List Places) (n m : ℕ) → KeepSets old new → IsCarried sets old n m → IsCarried sets new n m
carried-kept sets old new n m kept is = record {
  inside = inside-kept old new m kept is.inside;
  is = λ k. set-kept old new m kept is.inside k ∙ is.is k;
}

-- the number of a copy
pub carried-put : (sets new : List Places) (n m : ℕ) (s copy : Places) → n < length sets → s ≡ get_or sets n s → copy ≡ s → slice_get new m ≡ Some copy → IsCarried sets new n m
carried-put sets new n m s copy inside at same number = record {
  inside = slice_get_within new m copy number;
  is = λ k. set-there new m copy number k ∙ ap (λ x. has_place x k) same ∙ sym (set-read sets n s inside at k);
}

pub all-carried : (sets old new : List Places) (noted : List (Noted ℕ ℕ)) → KeepSets old new → AreCarried sets old noted → AreCarried sets new noted
all-carried sets old new noted kept are = λ e m. carried-kept sets old new e.key e.value kept (are e m)

-- ---- a table of the columns' sets alone

-- a column more, with the number of its set in another table
pub renewed-more : (sets old now : List Places) (cs front whole : List Column) (x : Column) (n : ℕ) (made : List Key) (k : ℕ) → whole ≡ front ++ x ∷ [] → ((c : Column) → Member c cs → c.set < length old) → KeepSets old now
    → IsCarried sets now x.set n → made ≡ given now cs k ++ cond (set_at now n k) (x.key ∷ []) [] → given old cs k ≡ given sets front k → made ≡ given sets whole k
renewed-more sets old now cs front whole x n made k more inside kept carried is known =
    is ∙ ap (λ xs. xs ++ cond (set_at now n k) (x.key ∷ []) []) (given-kept old now cs kept inside k ∙ known)
    ∙ ap (λ b. given sets front k ++ cond b (x.key ∷ []) []) (carried.is k)
    ∙ sym (given-pushed sets front x k) ∙ sym (ap (λ ds. given sets ds k) more)
