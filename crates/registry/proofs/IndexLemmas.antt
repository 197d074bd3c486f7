-- What is found by its key has the place of its key.
use Rattle.std.proofs.Common.{◌≡◌, ℕ, suc, ◌+◌, Bool, true, false, cond, ◌&&◌, ◌||◌, nat_eq, List, [], ◌∷◌, ◌++◌, filter, map, position, sym, ap, ◌∙◌, refl, arith}
use Rattle.std.specs.Prelude.{Option, Some, None, is_some, find, slice_get}
use Rattle.std.specs.List.{list_any, position_from, IsDistinct, AllByRecursion}
use Rattle.std.specs.Option.{option_and_then, option_map, option_map_or}
use Rattle.std.specs.Cmp.Lexicographic.{pointwise, nat_list_eq_equiv}
use Rattle.std.specs.Cmp.{nat_eq_equiv}
use Rattle.std.specs.Cmp.{IsEquivalence}
use Rattle.std.proofs.lemmas.Bool.{eqb-true, or_from, and_right}
use Rattle.net_types.proofs.PassLemmas.{any_map, same_any}
use Rattle.net_types.specs.declared.route.PortInfo.{PortInfo}
use Rattle.registry.specs.declared.owners.Owned.{Owned}
use Rattle.registry.specs.Owners.{AreOwners, numbers_at, first_at, first_of}
use Rattle.std.proofs.lemmas.Iterator.Adapters.{position_from-zero}
use Rattle.net_types.proofs.FindLemmas.{any_position}
use Rattle.std.proofs.lemmas.List.{map_push}

position_map : {A B : Type 0} (test : B → Bool) (f : A → B) (n : ℕ) (xs : List A) → position_from test n (map f xs) ≡ position_from (λ x. test (f x)) n xs
position_map test f n [] = refl
position_map test f n (x ∷ xs) = ap (cond (test (f x)) (Some n)) (position_map test f (n + 1) xs)

position_alike : {A : Type 0} (f g : A → Bool) → ((x : A) → f x ≡ g x) → (n : ℕ) (xs : List A) → position_from f n xs ≡ position_from g n xs
position_alike f g same n [] = refl
position_alike f g same n (x ∷ xs) = ap (λ b. cond b (Some n) (position_from f (n + 1) xs)) (same x) ∙ ap (cond (g x) (Some n)) (position_alike f g same (n + 1) xs)

-- the place among the keys is the place among what has them
pub place_is : {K A B : Type 0} (test : B → Bool) (key : K → B) (name : A → B) (ks : List K) (xs : List A) → map key ks ≡ map name xs → position (λ k. test (key k)) ks ≡ position_from (λ x. test (name x)) 0 xs
place_is test key name ks xs same = position_from-zero (λ k. test (key k)) ks ∙ sym (position_map test key 0 ks) ∙ ap (position_from test 0) same ∙ position_map test name 0 xs

-- a key is there where something has it
pub has_is : {K A B : Type 0} (test : B → Bool) (key : K → B) (name : A → B) (ks : List K) (xs : List A) → map key ks ≡ map name xs → list_any (λ k. test (key k)) ks ≡ is_some (position_from (λ x. test (name x)) 0 xs)
has_is test key name ks xs same = any_position (λ k. test (key k)) 0 ks ∙ ap is_some (sym (position_from-zero (λ k. test (key k)) ks) ∙ place_is test key name ks xs same)

-- names are the same either way round
pub named_is : {K A : Type 0} (q : List ℕ) (key : K → List ℕ) (name : A → List ℕ) (ks : List K) (xs : List A) → map key ks ≡ map name xs → position (λ k. pointwise nat_eq q (key k)) ks ≡ position_from (λ x. pointwise nat_eq (name x) q) 0 xs
named_is q key name ks xs same = place_is (pointwise nat_eq q) key name ks xs same ∙ position_alike _ _ (λ x. nat_list_eq_equiv.symm q (name x)) 0 xs

pub unnamed_is : {K A : Type 0} (q : List ℕ) (key : K → List ℕ) (name : A → List ℕ) (ks : List K) (xs : List A) → map key ks ≡ map name xs → position_from (λ x. pointwise nat_eq (name x) q) 0 xs ≡ None → list_any (λ k. pointwise nat_eq q (key k)) ks ≡ false
unnamed_is q key name ks xs same none = any_position (λ k. pointwise nat_eq q (key k)) 0 ks ∙ ap is_some (sym (position_from-zero (λ k. pointwise nat_eq q (key k)) ks) ∙ named_is q key name ks xs same ∙ none)

position_later : {A : Type 0} (f : A → Bool) (n : ℕ) (xs : List A) → position_from f (n + 1) xs ≡ option_map suc (position_from f n xs)
position_later f n [] = refl
position_later f n (x ∷ xs) = later (f x) n (position_from f (n + 1) xs) (position_from f (n + 1 + 1) xs) (position_later f (n + 1) xs)
  where
    later : (b : Bool) (n : ℕ) (here next : Option ℕ) → next ≡ option_map suc here → cond b (Some (n + 1)) next ≡ option_map suc (cond b (Some n) here)
    later true n here next e = ap Some (let one : n + 1 ≡ suc n = omega arith in one)
    later false n here next e = e

at_next : {A : Type 0} (x : A) (xs : List A) (o : Option ℕ) → option_and_then (slice_get (x ∷ xs)) (option_map suc o) ≡ option_and_then (slice_get xs) o
at_next x xs None = refl
at_next x xs (Some n) = refl

-- what stands at the place is what is found
pub found_at_place : {A : Type 0} (f : A → Bool) (xs : List A) → option_and_then (slice_get xs) (position_from f 0 xs) ≡ find f xs
found_at_place f [] = refl
found_at_place {A} f (x ∷ xs) = elim (f x) as (λ b. option_and_then (slice_get (x ∷ xs)) (cond b (Some 0) (position_from f (0 + 1) xs)) ≡ cond b (Some x) (find f xs)) [
  | true ↦ refl
  | false ↦ ap (option_and_then (slice_get (x ∷ xs))) (position_later f 0 xs) ∙ at_next x xs (position_from f 0 xs) ∙ found_at_place f xs
]

find_alike : {A : Type 0} (f g : A → Bool) → ((x : A) → f x ≡ g x) → (xs : List A) → find f xs ≡ find g xs
find_alike f g same [] = refl
find_alike f g same (x ∷ xs) = ap (λ b. cond b (Some x) (find f xs)) (same x) ∙ ap (cond (g x) (Some x)) (find_alike f g same xs)

-- the place of the one of a number is its place among the numbers
pub number_place : {A : Type 0} (q : ℕ) (number : A → ℕ) (ks : List ℕ) (xs : List A) → ks ≡ map number xs → position (nat_eq q) ks ≡ position_from (λ x. nat_eq (number x) q) 0 xs
number_place q number ks xs same =
    position_from-zero (nat_eq q) ks ∙ ap (position_from (nat_eq q) 0) same ∙ position_map (nat_eq q) number 0 xs ∙ position_alike _ _ (λ x. nat_eq_equiv.symm q (number x)) 0 xs

-- the one of a number, by its place among the numbers
pub numbered_is : {A : Type 0} (q : ℕ) (number : A → ℕ) (ks : List ℕ) (xs : List A) → ks ≡ map number xs → option_and_then (slice_get xs) (position (nat_eq q) ks) ≡ find (λ x. nat_eq (number x) q) xs
numbered_is q number ks xs same =
    ap (option_and_then (slice_get xs)) (position_from-zero (nat_eq q) ks ∙ ap (position_from (nat_eq q) 0) same ∙ position_map (nat_eq q) number 0 xs)
    ∙ found_at_place (λ x. nat_eq q (number x)) xs
    ∙ find_alike _ _ (λ x. nat_eq_equiv.symm q (number x)) xs

-- a key is among the keys where something has it
pub keyed_is : {A B : Type 0} (eq : B → B → Bool) → IsEquivalence eq → (q : B) (key : A → B) (ks : List B) (xs : List A) → ks ≡ map key xs → list_any (eq q) ks ≡ list_any (λ x. eq (key x) q) xs
keyed_is eq laws q key ks xs same = ap (list_any (eq q)) same ∙ any_map (eq q) key xs ∙ same_any _ _ xs (λ x. laws.symm q (key x))

three_more : (f g h a b d : Bool) → ((f || g || h) || (a || b || d)) ≡ ((f || a) || (g || b) || (h || d))
three_more true g h a b d = refl
three_more false true h true b d = refl
three_more false true h false b d = refl
three_more false false true true b d = refl
three_more false false true false true d = refl
three_more false false true false false d = refl
three_more false false false a b d = refl

-- one of three holds of some member where one of the three has a member that it holds of
pub any_three : {A : Type 0} (f g h : A → Bool) (xs : List A) → list_any (λ x. f x || g x || h x) xs ≡ (list_any f xs || list_any g xs || list_any h xs)
any_three f g h [] = refl
any_three f g h (x ∷ xs) = ap (λ b. (f x || g x || h x) || b) (any_three f g h xs) ∙ three_more (f x) (g x) (h x) (list_any f xs) (list_any g xs) (list_any h xs)

pub record AllFalse (a b d : Bool) : Type 0 where
  pub one : a ≡ false
  pub two : b ≡ false
  pub three : d ≡ false

pub all_false : (a b d : Bool) → (a || b || d) ≡ false → AllFalse a b d
all_false true b d e = cc
all_false false true d e = cc
all_false false false true e = cc
all_false false false false e = record { one = refl; two = refl; three = refl }

-- ---- one more

pub filter_more : {A : Type 0} (f : A → Bool) (xs : List A) (x : A) → filter f (xs ++ x ∷ []) ≡ cond (f x) (filter f xs ++ x ∷ []) (filter f xs)
filter_more f [] x = refl
filter_more {A} f (y ∷ xs) x = more (f y) (f x) (filter f (xs ++ x ∷ [])) (filter f xs) (filter_more f xs x)
  where
    more : (b d : Bool) (us vs : List A) → us ≡ cond d (vs ++ x ∷ []) vs → cond b (y ∷ us) us ≡ cond d (cond b (y ∷ vs) vs ++ x ∷ []) (cond b (y ∷ vs) vs)
    more true true us vs e = ap (λ l. y ∷ l) e
    more true false us vs e = ap (λ l. y ∷ l) e
    more false d us vs e = e

-- ---- whose address

no_other : (q : PortInfo) (ps : List PortInfo) (who ip : ℕ) → nat_eq q.ip.0 ip ≡ true → AllByRecursion (λ y. nat_eq q.ip.0 y ≡ false) (map (λ (p : PortInfo). p.ip.0) ps) → list_any (λ (p : PortInfo). nat_eq p.owner.0 who && nat_eq p.ip.0 ip) ps ≡ false
no_other q [] who ip e apart = refl
no_other q (p ∷ ps) who ip e apart =
    or_from (nat_eq p.owner.0 who && nat_eq p.ip.0 ip) (list_any (λ (p : PortInfo). nat_eq p.owner.0 who && nat_eq p.ip.0 ip) ps)
    (and_right (nat_eq p.owner.0 who) (nat_eq p.ip.0 ip) (nat_eq_equiv.symm p.ip.0 ip ∙ ap (λ n. nat_eq n p.ip.0) (sym (eqb-true q.ip.0 ip e)) ∙ apart.0))
    (no_other q ps who ip e apart.1)

alone : (b : Bool) → ((b && true) || false) ≡ b
alone true = refl
alone false = refl

apart_from : (b d : Bool) → ((b && false) || d) ≡ d
apart_from true d = refl
apart_from false d = refl

-- where no two ports have one address, who owns the port with an address owns a port with it
pub owner_is : (ps : List PortInfo) (who ip : ℕ) → IsDistinct nat_eq (map (λ (p : PortInfo). p.ip.0) ps) → list_any (λ (p : PortInfo). nat_eq p.owner.0 who && nat_eq p.ip.0 ip) ps ≡ option_map_or (λ (p : PortInfo). nat_eq p.owner.0 who) (find (λ (p : PortInfo). nat_eq p.ip.0 ip) ps) false
unfolding IsDistinct
owner_is [] who ip apart = refl
owner_is (q ∷ ps) who ip apart = by (nat_eq q.ip.0 ip) refl (owner_is ps who ip apart.1)
  where
    by : (b : Bool) → nat_eq q.ip.0 ip ≡ b → list_any (λ (p : PortInfo). nat_eq p.owner.0 who && nat_eq p.ip.0 ip) ps ≡ option_map_or (λ (p : PortInfo). nat_eq p.owner.0 who) (find (λ (p : PortInfo). nat_eq p.ip.0 ip) ps) false
        → ((nat_eq q.owner.0 who && b) || list_any (λ (p : PortInfo). nat_eq p.owner.0 who && nat_eq p.ip.0 ip) ps) ≡ option_map_or (λ (p : PortInfo). nat_eq p.owner.0 who) (cond b (Some q) (find (λ (p : PortInfo). nat_eq p.ip.0 ip) ps)) false
    by true e later = ap (λ b. (nat_eq q.owner.0 who && true) || b) (no_other q ps who ip e apart.0) ∙ alone (nat_eq q.owner.0 who)
    by false e later = apart_from (nat_eq q.owner.0 who) (list_any (λ (p : PortInfo). nat_eq p.owner.0 who && nat_eq p.ip.0 ip) ps) ∙ later

-- ---- the owners

module _ (os new : List Owned) (ps : List PortInfo) (p : PortInfo) (are : AreOwners os ps) where
  pub more_owners : ((n : ℕ) → numbers_at new n ≡ cond (nat_eq p.owner.0 n) (numbers_at os n ++ p.number ∷ []) (numbers_at os n)) → ((n : ℕ) → first_at new n ≡ cond (nat_eq p.owner.0 n) (first_of (first_at os n) p) (first_at os n)) → AreOwners new (ps ++ p ∷ [])
  more_owners numbers first = record {
    numbers = λ n. numbers n ∙ ap (λ ns. cond (nat_eq p.owner.0 n) (ns ++ p.number ∷ []) ns) (are.numbers n) ∙ numbers_more n (nat_eq p.owner.0 n) ∙ ap (map (λ (q : PortInfo). q.number)) (sym (filter_more (λ (q : PortInfo). nat_eq q.owner.0 n) ps p));
    first = λ n. first n ∙ ap (λ o. cond (nat_eq p.owner.0 n) (first_of o p) o) (are.first n) ∙ first_more (λ (q : PortInfo). nat_eq q.owner.0 n) ps;
  }
    where
      numbers_more : (n : ℕ) (b : Bool) → let qs : List PortInfo = filter (λ (q : PortInfo). nat_eq q.owner.0 n) ps in cond b (map (λ (q : PortInfo). q.number) qs ++ p.number ∷ []) (map (λ (q : PortInfo). q.number) qs) ≡ map (λ (q : PortInfo). q.number) (cond b (qs ++ p ∷ []) qs)
      numbers_more n true = sym (map_push (λ (q : PortInfo). q.number) (filter (λ (q : PortInfo). nat_eq q.owner.0 n) ps) p)
      numbers_more n false = refl

      none : (b : Bool) → cond b (Some p) None ≡ cond b (Some p) None
      none b = refl

      some : (b : Bool) (q : PortInfo) → cond b (first_of (Some q) p) (Some q) ≡ Some q
      some true q = refl
      some false q = refl

      first_more : (f : PortInfo → Bool) (qs : List PortInfo) → cond (f p) (first_of (find f qs) p) (find f qs) ≡ find f (qs ++ p ∷ [])
      first_more f [] = none (f p)
      first_more f (q ∷ qs) = elim (f q) as (λ b. cond (f p) (first_of (cond b (Some q) (find f qs)) p) (cond b (Some q) (find f qs)) ≡ cond b (Some q) (find f (qs ++ p ∷ []))) [ true ↦ some (f p) q | false ↦ first_more f qs ]
