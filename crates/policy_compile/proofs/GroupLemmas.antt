-- Results by assignments with sets of locations.
use Rattle.std.proofs.Common.{arith, ◌≡◌, ◌<◌, ◌+◌, ℕ, zero, suc, Bool, true, false, ◌||◌, ◌&&◌, cond, map, filter, take, nat_eq, nat_lt, eq-eqb, ne_eqb, le-ltb, Some, None, List, [], ◌∷◌, ◌++◌, length, inl, inr, refl, sym, ap, ◌∙◌, subst}
use Rattle.std.proofs.Common.{slice_index_or as get_or}
use Rattle.std.specs.List.{slice_get}
use Rattle.std.specs.Option.{option_map, option_to_list}
use Rattle.std.proofs.lemmas.Bool.{cases_Bool}
use Rattle.std.proofs.lemmas.List.{append-nil, append_assoc}
use Rattle.std.proofs.lemmas.List.Elements.{filter-append}
use Rattle.std.proofs.lemmas.Option.{slice_get_within}
use Rattle.net_types.specs.declared.headers.Loc.{Loc}
use Rattle.net_types.specs.declared.headers.Loc.TheVariants.{Stay, To, Out, Nowhere}
use Rattle.net_types.specs.contracts.headers.LocPartialEq.TheImpl.{ghosts as derived}
use Rattle.net_types.specs.declared.headers.Assign.{Assign}
use Rattle.net_types.specs.Headers.{arrived, followed_by}
use Rattle.net_types.specs.Sets.{Member, SameMembers, union_over}
use Rattle.net_types.proofs.SetLemmas
use Rattle.classifier.specs.Items.{Item}
use Rattle.classifier.proofs.SumLemmas.{union-append}
use Rattle.policy_compile.specs.declared.memo.Noted.{Noted}
use Rattle.policy_compile.specs.declared.columns.Column.{Column}
use Rattle.policy_compile.specs.declared.columns.Key.{Key}
use Rattle.place_sets.specs.Places.{has_place}
use Rattle.policy_compile.specs.Columns.{AreBelow, IsCarried, KeepSets, Places, given, set_at}
use Rattle.policy_compile.specs.Groups.{AreMoved, IsMoved, alone, picked, result_of, turned, ways_of, with_each}
use Rattle.policy_compile.specs.Paths.{after_item}
use Rattle.policy_compile.proofs.ColumnLemmas.{given-kept, given-pushed, inside-kept, one-more, same-before, set-kept, set-read, set-there}

-- ---- locations

pub same_location : (l : Loc) → derived.eq l l ≡ true
same_location Stay = refl
same_location (To who) = eq-eqb who.0 who.0 refl
same_location (Out port) = eq-eqb port.0 port.0 refl
same_location Nowhere = refl

pub picked-ext : (ls : List Loc) (f g : ℕ → Bool) → ((k : ℕ) → f k ≡ g k) → picked ls f ≡ picked ls g
picked-ext [] f g e = refl
picked-ext (l ∷ ls) f g e =
    ap (λ b. cond b (l ∷ picked ls (λ k. f (suc k))) (picked ls (λ k. f (suc k)))) (e 0)
    ∙ ap (λ xs. cond (g 0) (l ∷ xs) xs) (picked-ext ls (λ k. f (suc k)) (λ k. g (suc k)) (λ k. e (suc k)))

pub picked-none : (ls : List Loc) (f : ℕ → Bool) → ((k : ℕ) → f k ≡ false) → picked ls f ≡ []
picked-none [] f e = refl
picked-none (l ∷ ls) f e =
    ap (λ b. cond b (l ∷ picked ls (λ k. f (suc k))) (picked ls (λ k. f (suc k)))) (e 0) ∙ picked-none ls (λ k. f (suc k)) (λ k. e (suc k))

cond-append : {A : Type 0} (b : Bool) (x : A) (ys zs : List A) → cond b (x ∷ (ys ++ zs)) (ys ++ zs) ≡ cond b (x ∷ ys) ys ++ zs
cond-append true x ys zs = refl
cond-append false x ys zs = refl

-- a location more is looked at
pub picked-more : (ls : List Loc) (i : ℕ) (f : ℕ → Bool) (l : Loc) → i < length ls → l ≡ get_or ls i l → picked (take (i + 1) ls) f ≡ picked (take i ls) f ++ cond (f i) (l ∷ []) []
picked-more [] i f l inside at = absurd (omega (arith, inside))
picked-more (x ∷ ls) zero f l inside at = ap (λ (y : Loc). cond (f 0) (y ∷ []) []) (sym at)
picked-more (x ∷ ls) (suc i) f l inside at =
    let next : suc i + 1 ≡ suc (i + 1) = omega arith in
    ap (λ n. picked (take n (x ∷ ls)) f) next
    ∙ ap (λ xs. cond (f 0) (x ∷ xs) xs) (picked-more ls i (λ k. f (suc k)) l (omega (arith, inside)) at)
    ∙ cond-append (f 0) x (picked (take i ls) (λ k. f (suc k))) (cond (f (suc i)) (l ∷ []) [])

-- a place more is in the set
pub picked-put : (ls : List Loc) (n : ℕ) (l : Loc) (f g : ℕ → Bool) → slice_get ls n ≡ Some l → g n ≡ true → ((k : ℕ) → (k ≡ n → ⊥) → g k ≡ f k) → SameMembers (picked ls g) (picked ls f ++ l ∷ [])
picked-put [] n l f g at put others = absurd (cc)
picked-put (x ∷ ls) zero l f g at put others =
    let same : x ≡ l = cc in
    let rest = picked-ext ls (λ k. g (suc k)) (λ k. f (suc k)) (λ k. others (suc k) (λ e. omega (arith, e))) in
    SetLemmas.same_trans
    (SetLemmas.same_eq (ap (λ b. cond b (x ∷ picked ls (λ k. g (suc k))) (picked ls (λ k. g (suc k)))) put ∙ ap (λ xs. x ∷ xs) rest))
    (subst (λ (y : Loc). SameMembers (x ∷ picked ls (λ k. f (suc k))) (picked (x ∷ ls) f ++ y ∷ [])) same (there x (f 0) (picked ls (λ k. f (suc k)))))
  where
    there : (y : Loc) (b : Bool) (xs : List Loc) → SameMembers (y ∷ xs) (cond b (y ∷ xs) xs ++ y ∷ [])
    there y true xs = one-more y xs true true
    there y false xs = one-more y xs false true
picked-put (x ∷ ls) (suc n) l f g at put others =
    SetLemmas.same_trans
    (SetLemmas.same_eq (ap (λ b. cond b (x ∷ picked ls (λ k. g (suc k))) (picked ls (λ k. g (suc k)))) (others 0 (λ e. omega (arith, e)))))
    (same-before x (f 0) (picked ls (λ k. g (suc k))) (picked ls (λ k. f (suc k))) (l ∷ [])
    (picked-put ls n l (λ k. f (suc k)) (λ k. g (suc k)) at put (λ k differ. others (suc k) (λ e. differ (omega (arith, e))))))

-- as a set says it that a place was put in
put-here : (n : ℕ) (f g : ℕ → Bool) → ((k : ℕ) → g k ≡ (f k || nat_eq k n)) → g n ≡ true
put-here n f g e = e n ∙ ap (λ b. f n || b) (eq-eqb n n refl) ∙ or_true (f n)
  where
    or_true : (b : Bool) → (b || true) ≡ true
    or_true true = refl
    or_true false = refl

put-elsewhere : (n : ℕ) (f g : ℕ → Bool) → ((k : ℕ) → g k ≡ (f k || nat_eq k n)) → (k : ℕ) → (k ≡ n → ⊥) → g k ≡ f k
put-elsewhere n f g e k differ = e k ∙ ap (λ b. f k || b) (ne_eqb k n differ) ∙ or_false (f k)
  where
    or_false : (b : Bool) → (b || false) ≡ b
    or_false true = refl
    or_false false = refl

-- the first alone is in the set
pub picked-first : (ls : List Loc) (l : Loc) (f : ℕ → Bool) → slice_get ls 0 ≡ Some l → ((k : ℕ) → f k ≡ nat_lt k 1) → picked ls f ≡ l ∷ []
picked-first [] l f at e = absurd (cc)
picked-first (x ∷ ls) l f at e =
    let same : x ≡ l = cc in
    ap (λ b. cond b (x ∷ picked ls (λ k. f (suc k))) (picked ls (λ k. f (suc k)))) (e 0)
    ∙ ap (λ xs. x ∷ xs) (picked-none ls (λ k. f (suc k)) (λ k. e (suc k) ∙ le-ltb (suc k) 1 (omega arith)))
    ∙ ap (λ (y : Loc). y ∷ []) same

-- where a location stands
pub record IsPicked (ls : List Loc) (f : ℕ → Bool) (l : Loc) : Type 0 where
  pub place : ℕ
  pub at : slice_get ls place ≡ Some l
  pub has : f place ≡ true

pub picked-from : (ls : List Loc) (f : ℕ → Bool) (l : Loc) → Member l (picked ls f) → IsPicked ls f l
picked-from [] f l m = elim m [ ]
picked-from (x ∷ ls) f l m = by (f 0) refl (λ n. (let p = picked-from ls (λ k. f (suc k)) l n in record { place = suc p.place; at = p.at; has = p.has })) m
  where
    by : (b : Bool) → f 0 ≡ b → (Member l (picked ls (λ k. f (suc k))) → IsPicked (x ∷ ls) f l) → Member l (cond b (x ∷ picked ls (λ k. f (suc k))) (picked ls (λ k. f (suc k)))) → IsPicked (x ∷ ls) f l
    by true e later (inl same) = record { place = zero; at = ap Some (sym same); has = e }
    by true e later (inr n) = later n
    by false e later n = later n

pub picked-into : (ls : List Loc) (f : ℕ → Bool) (n : ℕ) (l : Loc) → slice_get ls n ≡ Some l → f n ≡ true → Member l (picked ls f)
picked-into [] f n l at has = absurd (cc)
picked-into (x ∷ ls) f zero l at has = subst (λ b. Member l (cond b (x ∷ picked ls (λ k. f (suc k))) (picked ls (λ k. f (suc k))))) (sym has) (inl (let same : l ≡ x = cc in same))
picked-into (x ∷ ls) f (suc n) l at has = by (f 0) (picked-into ls (λ k. f (suc k)) n l at has)
  where
    by : (b : Bool) → Member l (picked ls (λ k. f (suc k))) → Member l (cond b (x ∷ picked ls (λ k. f (suc k))) (picked ls (λ k. f (suc k))))
    by true m = inr m
    by false m = m

-- ---- where one goes from locations

-- from one more
pub moved-more : (ls : List Loc) (i n : ℕ) (ways old new : ℕ → Bool) (l next : Loc) (loc : Loc) → i < length ls → l ≡ get_or ls i l → ways i ≡ true → slice_get ls n ≡ Some next → next ≡ arrived l loc
    → ((k : ℕ) → new k ≡ (old k || nat_eq k n)) → SameMembers (picked ls old) (map (λ x. arrived x loc) (picked (take i ls) ways)) → SameMembers (picked ls new) (map (λ x. arrived x loc) (picked (take (i + 1) ls) ways))
moved-more ls i n ways old new l next loc inside at has there is put same =
    SetLemmas.same_trans (picked-put ls n next old new there (put-here n old new put) (put-elsewhere n old new put))
    (SetLemmas.same_trans (SetLemmas.same_append same (SetLemmas.same_refl (next ∷ [])))
    (SetLemmas.same_eq (ap (λ (y : Loc). map (λ x. arrived x loc) (picked (take i ls) ways) ++ y ∷ []) is
    ∙ sym (SetLemmas.map-append (λ x. arrived x loc) (picked (take i ls) ways) (l ∷ []))
    ∙ ap (λ b. map (λ x. arrived x loc) (picked (take i ls) ways ++ cond b (l ∷ []) [])) (sym has)
    ∙ ap (map (λ x. arrived x loc)) (sym (picked-more ls i ways l inside at)))))

-- from none more
pub moved-less : (ls : List Loc) (i : ℕ) (ways old : ℕ → Bool) (l : Loc) (loc : Loc) → i < length ls → l ≡ get_or ls i l → ways i ≡ false
    → SameMembers (picked ls old) (map (λ x. arrived x loc) (picked (take i ls) ways)) → SameMembers (picked ls old) (map (λ x. arrived x loc) (picked (take (i + 1) ls) ways))
moved-less ls i ways old l loc inside at away same =
    SetLemmas.same_trans same (SetLemmas.same_eq (ap (map (λ x. arrived x loc))
    (sym (append-nil (picked (take i ls) ways)) ∙ ap (λ b. picked (take i ls) ways ++ cond b (l ∷ []) []) (sym away) ∙ sym (picked-more ls i ways l inside at))))

-- ---- sets of locations that keep their numbers

moved-kept : (ls : List Loc) (loc : Loc) (sets old new : List Places) (n m : ℕ) → KeepSets old new → IsMoved ls loc sets old n m → IsMoved ls loc sets new n m
moved-kept ls loc sets old new n m kept is = record {
  inside = inside-kept old new m kept is.inside;
  same = SetLemmas.same_trans (SetLemmas.same_eq (picked-ext ls (set_at new m) (set_at old m) (set-kept old new m kept is.inside))) is.same;
}

pub all-moved : (ls : List Loc) (loc : Loc) (sets old new : List Places) (noted : List (Noted ℕ ℕ)) → KeepSets old new → AreMoved ls loc sets old noted → AreMoved ls loc sets new noted
all-moved ls loc sets old new noted kept are = λ e m. moved-kept ls loc sets old new e.key e.value kept (are e m)

-- the number of the set to which one goes
pub moved-put : (ls : List Loc) (loc : Loc) (sets new : List Places) (n m : ℕ) (s next : Places) → n < length sets → s ≡ get_or sets n s → slice_get new m ≡ Some next
    → SameMembers (picked ls (has_place next)) (map (λ l. arrived l loc) (picked ls (has_place s))) → IsMoved ls loc sets new n m
moved-put ls loc sets new n m s next inside at number same = record {
  inside = slice_get_within new m next number;
  same = SetLemmas.same_trans (SetLemmas.same_eq (picked-ext ls (set_at new m) (has_place next) (set-there new m next number)))
      (SetLemmas.same_trans same (SetLemmas.same_eq (ap (map (λ l. arrived l loc)) (sym (picked-ext ls (set_at sets n) (has_place s) (set-read sets n s inside at))))));
}

ways-kept : (ls : List Loc) (old new : List Places) (key : Key) → KeepSets old new → key.number < length old → ways_of ls new key ≡ ways_of ls old key
ways-kept ls old new key kept inside = ap (with_each key.set) (picked-ext ls (set_at new key.number) (set_at old key.number) (set-kept old new key.number kept inside))

pub spread-kept : (ls : List Loc) (old new sets : List Places) (cs : List Column) (k : ℕ) → KeepSets old new → AreBelow (length old) cs → union_over (ways_of ls new) (given sets cs k) ≡ union_over (ways_of ls old) (given sets cs k)
spread-kept ls old new sets [] k kept are = refl
spread-kept ls old new sets (c ∷ cs) k kept are = by (set_at sets c.set k) (spread-kept ls old new sets cs k kept (λ d m. are d (inr m)))
  where
    by : (b : Bool) → union_over (ways_of ls new) (given sets cs k) ≡ union_over (ways_of ls old) (given sets cs k)
        → union_over (ways_of ls new) (cond b (c.key ∷ given sets cs k) (given sets cs k)) ≡ union_over (ways_of ls old) (cond b (c.key ∷ given sets cs k) (given sets cs k))
    by true rest = ap (λ (xs : List Item). xs ++ union_over (ways_of ls new) (given sets cs k)) (ways-kept ls old new c.key kept (are c (inl refl))) ∙ ap (λ (xs : List Item). ways_of ls old c.key ++ xs) rest
    by false rest = rest

pub below-kept : (old new : List Places) (cs : List Column) → KeepSets old new → AreBelow (length old) cs → AreBelow (length new) cs
below-kept old new cs kept are = λ c m. inside-kept old new c.key.number kept (are c m)

-- ---- what is done after the results of a column more

-- after those of its key
after-key : (ls : List Loc) (loc : Loc) (set : Assign) (sets new : List Places) (x key : Key) → key.set ≡ followed_by x.set set → IsMoved ls loc sets new x.number key.number
    → SameMembers (ways_of ls new key) (map (after_item set loc) (ways_of ls sets x))
after-key ls loc set sets new x key which moved =
    SetLemmas.same_trans (SetLemmas.same_map (λ (l : Loc). let i : Item = (key.set, l) in i) moved.same)
    (SetLemmas.same_eq (SetLemmas.map-map (λ (l : Loc). let i : Item = (key.set, l) in i) (λ l. arrived l loc) (λ l. after_item set loc (x.set, l)) (λ l. ap (λ (a : Assign). let i : Item = (a, arrived l loc) in i) which) (picked ls (set_at sets x.number))
    ∙ sym (SetLemmas.map-map (after_item set loc) (λ (l : Loc). let i : Item = (x.set, l) in i) (λ l. after_item set loc (x.set, l)) (λ l. refl) (picked ls (set_at sets x.number)))))

pub after-more : (ls : List Loc) (loc : Loc) (set : Assign) (sets was ways osets ssets nsets news : List Places) (cs made olds more : List Column) (x : Column) (key : Key) (p k : ℕ) (base : List Item)
    → more ≡ olds ++ x ∷ [] → AreBelow (length was) cs → KeepSets was ways → ((c : Column) → Member c cs → c.set < length ssets) → KeepSets ssets nsets
    → key.set ≡ followed_by x.key.set set → IsMoved ls loc sets ways x.key.number key.number → IsCarried osets nsets x.set p
    → SameMembers (given news made k) (given nsets cs k ++ cond (set_at nsets p k) (key ∷ []) [])
    → SameMembers (union_over (ways_of ls was) (given ssets cs k)) (base ++ map (after_item set loc) (union_over (ways_of ls sets) (given osets olds k)))
    → SameMembers (union_over (ways_of ls ways) (given news made k)) (base ++ map (after_item set loc) (union_over (ways_of ls sets) (given osets more k)))
after-more ls loc set sets was ways osets ssets nsets news cs made olds more x key p k base pushed below kept inside keep which moved carried added same =
    SetLemmas.same_trans (SetLemmas.same_union (ways_of ls ways) (ways_of ls ways) added (λ y. SetLemmas.same_refl (ways_of ls ways y)))
    (SetLemmas.same_trans (SetLemmas.same_eq (union-append (ways_of ls ways) (given nsets cs k) (cond (set_at nsets p k) (key ∷ []) [])))
    (SetLemmas.same_trans (SetLemmas.same_append (SetLemmas.same_trans (SetLemmas.same_eq (ap (union_over (ways_of ls ways)) (given-kept ssets nsets cs keep inside k) ∙ spread-kept ls was ways ssets cs k kept below)) same) last)
    (SetLemmas.same_eq (append_assoc base (map f (union_over (ways_of ls sets) (given osets olds k))) (map f (union_over (ways_of ls sets) (cond b (x.key ∷ []) [])))
    ∙ ap (λ xs. base ++ xs) (sym (SetLemmas.map-append f (union_over (ways_of ls sets) (given osets olds k)) (union_over (ways_of ls sets) (cond b (x.key ∷ []) [])))
    ∙ ap (map f) (sym (union-append (ways_of ls sets) (given osets olds k) (cond b (x.key ∷ []) [])) ∙ ap (union_over (ways_of ls sets)) (sym (given-pushed osets olds x k) ∙ ap (λ es. given osets es k) (sym pushed))))))))
  where
    f : Item → Item
    f = after_item set loc

    b : Bool
    b = set_at osets x.set k

    one : (a : Bool) → SameMembers (union_over (ways_of ls ways) (cond a (key ∷ []) [])) (map f (union_over (ways_of ls sets) (cond a (x.key ∷ []) [])))
    one true = SetLemmas.same_trans (SetLemmas.same_eq (append-nil (ways_of ls ways key))) (SetLemmas.same_trans (after-key ls loc set sets ways x.key key which moved) (SetLemmas.same_eq (ap (map f) (sym (append-nil (ways_of ls sets x.key))))))
    one false = SetLemmas.same_refl []

    last : SameMembers (union_over (ways_of ls ways) (cond (set_at nsets p k) (key ∷ []) [])) (map f (union_over (ways_of ls sets) (cond b (x.key ∷ []) [])))
    last = SetLemmas.same_trans (SetLemmas.same_eq (ap (λ a. union_over (ways_of ls ways) (cond a (key ∷ []) [])) (carried.is k))) (one b)

-- ---- columns that are turned

pub turned-pushed : (sets : List Places) (cs : List Column) (c : Column) (j : ℕ) → turned sets (cs ++ c ∷ []) j ≡ turned sets cs j ++ cond (set_at sets c.key.number j) (record { set = c.key.set; number = c.set } ∷ []) []
turned-pushed sets [] c j = refl
turned-pushed sets (x ∷ cs) c j =
    ap (λ ks. cond (set_at sets x.key.number j) (record { set = x.key.set; number = x.set } ∷ ks) ks) (turned-pushed sets cs c j)
    ∙ cond-append (set_at sets x.key.number j) (record { set = x.key.set; number = x.set }) (turned sets cs j) (cond (set_at sets c.key.number j) (record { set = c.key.set; number = c.set } ∷ []) [])

-- a column more is turned
pub turned-more : (sets was now news : List Places) (cs made olds more : List Column) (x : Column) (key : Key) (p j : ℕ) → more ≡ olds ++ x ∷ [] → ((c : Column) → Member c cs → c.set < length was) → KeepSets was now
    → key ≡ record { set = x.key.set; number = x.set } → IsCarried sets now x.key.number p → SameMembers (given news made j) (given now cs j ++ cond (set_at now p j) (key ∷ []) [])
    → SameMembers (given was cs j) (turned sets olds j) → SameMembers (given news made j) (turned sets more j)
turned-more sets was now news cs made olds more x key p j pushed inside keep which carried added same =
    SetLemmas.same_trans added
    (SetLemmas.same_trans (SetLemmas.same_append (SetLemmas.same_trans (SetLemmas.same_eq (given-kept was now cs keep inside j)) same) (SetLemmas.same_refl (cond (set_at now p j) (key ∷ []) [])))
    (SetLemmas.same_eq (ap (λ b. turned sets olds j ++ cond b (key ∷ []) []) (carried.is j)
    ∙ ap (λ (k : Key). turned sets olds j ++ cond (set_at sets x.key.number j) (k ∷ []) []) which
    ∙ sym (turned-pushed sets olds x j) ∙ ap (λ es. turned sets es j) (sym pushed))))

-- a column with a key that is given
record IsGiven (sets : List Places) (cs : List Column) (k : ℕ) (key : Key) : Type 0 where
  pub column : Column
  pub stands : Member column cs
  pub has : set_at sets column.set k ≡ true
  pub is : column.key ≡ key

given-from : (sets : List Places) (cs : List Column) (k : ℕ) (key : Key) → Member key (given sets cs k) → IsGiven sets cs k key
given-from sets [] k key m = elim m [ ]
given-from sets (c ∷ cs) k key m =
    by (set_at sets c.set k) refl (λ n. (let g = given-from sets cs k key n in record { column = g.column; stands = inr g.stands; has = g.has; is = g.is })) m
  where
    by : (b : Bool) → set_at sets c.set k ≡ b → (Member key (given sets cs k) → IsGiven sets (c ∷ cs) k key) → Member key (cond b (c.key ∷ given sets cs k) (given sets cs k)) → IsGiven sets (c ∷ cs) k key
    by true e later (inl same) = record { column = c; stands = inl refl; has = e; is = sym same }
    by true e later (inr n) = later n
    by false e later n = later n

given-into : (sets : List Places) (cs : List Column) (k : ℕ) (c : Column) → Member c cs → set_at sets c.set k ≡ true → Member c.key (given sets cs k)
given-into sets [] k c m has = elim m [ ]
given-into sets (d ∷ cs) k c (inl same) has =
    subst (λ (x : Column). Member c.key (cond (set_at sets x.set k) (x.key ∷ given sets cs k) (given sets cs k))) same
    (subst (λ b. Member c.key (cond b (c.key ∷ given sets cs k) (given sets cs k))) (sym has) (inl refl))
given-into sets (d ∷ cs) k c (inr m) has = by (set_at sets d.set k) (given-into sets cs k c m has)
  where
    by : (b : Bool) → Member c.key (given sets cs k) → Member c.key (cond b (d.key ∷ given sets cs k) (given sets cs k))
    by true n = inr n
    by false n = n

-- a column with a key that is turned
record IsTurned (sets : List Places) (cs : List Column) (j : ℕ) (key : Key) : Type 0 where
  pub column : Column
  pub stands : Member column cs
  pub has : set_at sets column.key.number j ≡ true
  pub is : key ≡ record { set = column.key.set; number = column.set }

turned-from : (sets : List Places) (cs : List Column) (j : ℕ) (key : Key) → Member key (turned sets cs j) → IsTurned sets cs j key
turned-from sets [] j key m = elim m [ ]
turned-from sets (c ∷ cs) j key m =
    by (set_at sets c.key.number j) refl (λ n. (let g = turned-from sets cs j key n in record { column = g.column; stands = inr g.stands; has = g.has; is = g.is })) m
  where
    by : (b : Bool) → set_at sets c.key.number j ≡ b → (Member key (turned sets cs j) → IsTurned sets (c ∷ cs) j key)
        → Member key (cond b (record { set = c.key.set; number = c.set } ∷ turned sets cs j) (turned sets cs j)) → IsTurned sets (c ∷ cs) j key
    by true e later (inl same) = record { column = c; stands = inl refl; has = e; is = same }
    by true e later (inr n) = later n
    by false e later n = later n

turned-into : (sets : List Places) (cs : List Column) (j : ℕ) (c : Column) → Member c cs → set_at sets c.key.number j ≡ true → Member (record { set = c.key.set; number = c.set }) (turned sets cs j)
turned-into sets [] j c m has = elim m [ ]
turned-into sets (d ∷ cs) j c (inl same) has =
    subst (λ (x : Column). Member (record { set = c.key.set; number = c.set }) (cond (set_at sets x.key.number j) (record { set = x.key.set; number = x.set } ∷ turned sets cs j) (turned sets cs j))) same
    (subst (λ b. Member (record { set = c.key.set; number = c.set }) (cond b (record { set = c.key.set; number = c.set } ∷ turned sets cs j) (turned sets cs j))) (sym has) (inl refl))
turned-into sets (d ∷ cs) j c (inr m) has = by (set_at sets d.key.number j) (turned-into sets cs j c m has)
  where
    by : (b : Bool) → Member (record { set = c.key.set; number = c.set }) (turned sets cs j)
        → Member (record { set = c.key.set; number = c.set }) (cond b (record { set = d.key.set; number = d.set } ∷ turned sets cs j) (turned sets cs j))
    by true n = inr n
    by false n = n

-- a column with a result that is given
record IsResult (ls : List Loc) (ways sets : List Places) (cs : List Column) (k : ℕ) (i : Item) : Type 0 where
  pub column : Column
  pub stands : Member column cs
  pub has : set_at sets column.set k ≡ true
  pub set : i.0 ≡ column.key.set
  pub place : ℕ
  pub at : slice_get ls place ≡ Some i.1
  pub goes : set_at ways column.key.number place ≡ true

result-from : (ls : List Loc) (ways sets : List Places) (cs : List Column) (k : ℕ) (i : Item) → Member i (union_over (ways_of ls ways) (given sets cs k)) → IsResult ls ways sets cs k i
result-from ls ways sets cs k i m =
    let s = SetLemmas.union-Member (ways_of ls ways) (given sets cs k) i m in
    let g = given-from sets cs k s.of s.stands in
    let image = SetLemmas.map-Member (λ (l : Loc). let j : Item = (s.of.set, l) in j) (picked ls (set_at ways s.of.number)) i s.gives in
    let p = picked-from ls (set_at ways s.of.number) image.of image.stands in
    record {
      column = g.column;
      stands = g.stands;
      has = g.has;
      set = ap (λ (j : Item). j.0) image.is ∙ ap (λ (key : Key). key.set) (sym g.is);
      place = p.place;
      at = p.at ∙ ap (λ (j : Item). Some j.1) (sym image.is);
      goes = ap (λ (key : Key). set_at ways key.number p.place) g.is ∙ p.has;
    }

result-into : (ls : List Loc) (ways sets : List Places) (cs : List Column) (k : ℕ) (i : Item) → IsResult ls ways sets cs k i → Member i (union_over (ways_of ls ways) (given sets cs k))
result-into ls ways sets cs k i r =
    SetLemmas.Member-union (ways_of ls ways) (given sets cs k) r.column.key i (given-into sets cs k r.column r.stands r.has)
    (subst (λ (j : Item). Member j (ways_of ls ways r.column.key)) (ap (λ (a : Assign). let j : Item = (a, i.1) in j) (sym r.set))
    (SetLemmas.Member-map (λ (l : Loc). let j : Item = (r.column.key.set, l) in j) (picked ls (set_at ways r.column.key.number)) i.1 (picked-into ls (set_at ways r.column.key.number) r.place i.1 r.at r.goes)))

-- columns that are turned twice give the same results
pub turned-twice : (ls : List Loc) (ways sets nways nsets : List Places) (cs by made : List Column) → ((j : ℕ) → SameMembers (given nways by j) (turned ways cs j)) → ((k : ℕ) → SameMembers (given nsets made k) (turned sets by k))
    → (k : ℕ) → SameMembers (union_over (ways_of ls nways) (given nsets made k)) (union_over (ways_of ls ways) (given sets cs k))
turned-twice ls ways sets nways nsets cs by made once twice k = record {
  onto = λ i m.
      let r = result-from ls nways nsets made k i m in
      let t = turned-from sets by k r.column.key ((twice k).onto r.column.key (given-into nsets made k r.column r.stands r.has)) in
      let number : r.column.key.number ≡ t.column.set = ap (λ (key : Key). key.number) t.is in
      let u = turned-from ways cs r.place t.column.key ((once r.place).onto t.column.key (given-into nways by r.place t.column t.stands (ap (λ n. set_at nways n r.place) (sym number) ∙ r.goes))) in
      result-into ls ways sets cs k i (record {
        column = u.column;
        stands = u.stands;
        has = ap (λ (key : Key). set_at sets key.number k) (sym u.is) ∙ t.has;
        set = r.set ∙ ap (λ (key : Key). key.set) t.is ∙ ap (λ (key : Key). key.set) u.is;
        place = r.place;
        at = r.at;
        goes = u.has;
      });
  back = λ i m.
      let r = result-from ls ways sets cs k i m in
      let g = given-from nways by r.place (record { set = r.column.key.set; number = r.column.set }) ((once r.place).back (record { set = r.column.key.set; number = r.column.set }) (turned-into ways cs r.place r.column r.stands r.goes)) in
      let h = given-from nsets made k (record { set = g.column.key.set; number = g.column.set })
      ((twice k).back (record { set = g.column.key.set; number = g.column.set }) (turned-into sets by k g.column g.stands (ap (λ (key : Key). set_at sets key.number k) g.is ∙ r.has))) in
      result-into ls nways nsets made k i (record {
        column = h.column;
        stands = h.stands;
        has = h.has;
        set = r.set ∙ sym (ap (λ (key : Key). key.set) g.is) ∙ sym (ap (λ (key : Key). key.set) h.is);
        place = r.place;
        at = r.at;
        goes = ap (λ (key : Key). set_at nways key.number r.place) h.is ∙ g.has;
      });
}

-- ---- results one by one

-- one more
pub alone-more : (ls : List Loc) (i number : ℕ) (f : ℕ → Bool) (set : Assign) (l : Loc) (was now news : List Places) (cs made : List Column) (k : ℕ) (base : List Item) → i < length ls → slice_get ls i ≡ Some l → l ≡ get_or ls i l → f i ≡ true
    → set_at now number k ≡ set_at was number k → SameMembers (given news made k) (given now cs k ++ cond (set_at now number k) (record { set = set; number = i } ∷ []) [])
    → SameMembers (alone ls (given now cs k)) (base ++ cond (set_at was number k) (with_each set (picked (take i ls) f)) [])
    → SameMembers (alone ls (given news made k)) (base ++ cond (set_at was number k) (with_each set (picked (take (i + 1) ls) f)) [])
alone-more ls i number f set l was now news cs made k base inside at read has keep added same =
    SetLemmas.same_trans (SetLemmas.same_union (result_of ls) (result_of ls) added (λ y. SetLemmas.same_refl (result_of ls y)))
    (SetLemmas.same_trans (SetLemmas.same_eq (union-append (result_of ls) (given now cs k) (cond (set_at now number k) (key ∷ []) []) ∙ ap (λ b. alone ls (given now cs k) ++ union_over (result_of ls) (cond b (key ∷ []) [])) keep))
    (SetLemmas.same_trans (SetLemmas.same_append same (SetLemmas.same_refl (union_over (result_of ls) (cond (set_at was number k) (key ∷ []) []))))
    (SetLemmas.same_eq (append_assoc base (cond (set_at was number k) (with_each set (picked (take i ls) f)) []) (union_over (result_of ls) (cond (set_at was number k) (key ∷ []) [])) ∙ ap (λ xs. base ++ xs) (one (set_at was number k))))))
  where
    key : Key
    key = record { set = set; number = i }

    result : result_of ls key ≡ (set, l) ∷ []
    result = ap (λ o. option_to_list (option_map (λ (m : Loc). let j : Item = (set, m) in j) o)) at

    more : picked (take (i + 1) ls) f ≡ picked (take i ls) f ++ l ∷ []
    more = picked-more ls i f l inside read ∙ ap (λ b. picked (take i ls) f ++ cond b (l ∷ []) []) has

    one : (b : Bool) → cond b (with_each set (picked (take i ls) f)) [] ++ union_over (result_of ls) (cond b (key ∷ []) []) ≡ cond b (with_each set (picked (take (i + 1) ls) f)) []
    one true = ap (λ (xs : List Item). with_each set (picked (take i ls) f) ++ (xs ++ [])) result ∙ sym (SetLemmas.map-append (λ (m : Loc). let j : Item = (set, m) in j) (picked (take i ls) f) (l ∷ [])) ∙ ap (with_each set) (sym more)
    one false = refl

-- none more
pub alone-less : (ls : List Loc) (i : ℕ) (f : ℕ → Bool) (set : Assign) (l : Loc) (b : Bool) (all base : List Item) → i < length ls → l ≡ get_or ls i l → f i ≡ false
    → SameMembers all (base ++ cond b (with_each set (picked (take i ls) f)) []) → SameMembers all (base ++ cond b (with_each set (picked (take (i + 1) ls) f)) [])
alone-less ls i f set l b all base inside read away same =
    subst (λ (xs : List Loc). SameMembers all (base ++ cond b (with_each set xs) []))
    (sym (append-nil (picked (take i ls) f)) ∙ ap (λ a. picked (take i ls) f ++ cond a (l ∷ []) []) (sym away) ∙ sym (picked-more ls i f l inside read)) same

-- those of a column more
pub singles-more : (ls : List Loc) (ways sets was now news : List Places) (cs made olds more : List Column) (x : Column) (w : Places) (p k : ℕ) → more ≡ olds ++ x ∷ [] → ((c : Column) → Member c cs → c.set < length was) → KeepSets was now
    → x.key.number < length ways → w ≡ get_or ways x.key.number w → IsCarried sets now x.set p
    → SameMembers (alone ls (given news made k)) (alone ls (given now cs k) ++ cond (set_at now p k) (with_each x.key.set (picked ls (has_place w))) [])
    → SameMembers (alone ls (given was cs k)) (union_over (ways_of ls ways) (given sets olds k)) → SameMembers (alone ls (given news made k)) (union_over (ways_of ls ways) (given sets more k))
singles-more ls ways sets was now news cs made olds more x w p k pushed inside keep below at carried added same =
    SetLemmas.same_trans added
    (SetLemmas.same_trans (SetLemmas.same_append (SetLemmas.same_trans (SetLemmas.same_eq (ap (alone ls) (given-kept was now cs keep inside k))) same) (SetLemmas.same_refl (cond (set_at now p k) (with_each x.key.set (picked ls (has_place w))) [])))
    (SetLemmas.same_eq (ap (λ b. union_over (ways_of ls ways) (given sets olds k) ++ cond b (with_each x.key.set (picked ls (has_place w))) []) (carried.is k)
    ∙ ap (λ (ms : List Loc). union_over (ways_of ls ways) (given sets olds k) ++ cond (set_at sets x.set k) (with_each x.key.set ms) []) (sym (picked-ext ls (set_at ways x.key.number) (has_place w) (set-read ways x.key.number w below at)))
    ∙ ap (λ xs. union_over (ways_of ls ways) (given sets olds k) ++ xs) (one (set_at sets x.set k))
    ∙ sym (union-append (ways_of ls ways) (given sets olds k) (cond (set_at sets x.set k) (x.key ∷ []) [])) ∙ ap (union_over (ways_of ls ways)) (sym (given-pushed sets olds x k) ∙ ap (λ es. given sets es k) (sym pushed)))))
  where
    one : (b : Bool) → cond b (ways_of ls ways x.key) [] ≡ union_over (ways_of ls ways) (cond b (x.key ∷ []) [])
    one true = sym (append-nil (ways_of ls ways x.key))
    one false = refl

-- ---- what is left of results

filter-each : (f : Assign → Bool) (a : Assign) (ls : List Loc) → filter (λ (i : Item). f i.0) (with_each a ls) ≡ cond (f a) (with_each a ls) []
filter-each f a [] = by (f a)
  where
    by : (b : Bool) → [] ≡ cond b (with_each a []) []
    by true = refl
    by false = refl
filter-each f a (l ∷ ls) = ap (λ xs. cond (f a) ((a, l) ∷ xs) xs) (filter-each f a ls) ∙ by (f a)
  where
    by : (b : Bool) → cond b ((a, l) ∷ cond b (with_each a ls) []) (cond b (with_each a ls) []) ≡ cond b (with_each a (l ∷ ls)) []
    by true = refl
    by false = refl

-- where the assignment alone decides
pub spread-filtered : (f : Assign → Bool) (ls : List Loc) (ways : List Places) (keys : List Key) → union_over (ways_of ls ways) (filter (λ (key : Key). f key.set) keys) ≡ filter (λ (i : Item). f i.0) (union_over (ways_of ls ways) keys)
spread-filtered f ls ways [] = refl
spread-filtered f ls ways (key ∷ keys) =
    by (f key.set) (spread-filtered f ls ways keys)
    ∙ ap (λ xs. xs ++ filter (λ (i : Item). f i.0) (union_over (ways_of ls ways) keys)) (sym (filter-each f key.set (picked ls (set_at ways key.number))))
    ∙ sym (filter-append (λ (i : Item). f i.0) (ways_of ls ways key) (union_over (ways_of ls ways) keys))
  where
    by : (b : Bool) → union_over (ways_of ls ways) (filter (λ (k : Key). f k.set) keys) ≡ filter (λ (i : Item). f i.0) (union_over (ways_of ls ways) keys)
        → union_over (ways_of ls ways) (cond b (key ∷ filter (λ (k : Key). f k.set) keys) (filter (λ (k : Key). f k.set) keys)) ≡ cond b (ways_of ls ways key) [] ++ filter (λ (i : Item). f i.0) (union_over (ways_of ls ways) keys)
    by true rest = ap (λ xs. ways_of ls ways key ++ xs) rest
    by false rest = rest
