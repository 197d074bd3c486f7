-- What is listed of each participant.
use Rattle.std.proofs.Common.{◌≡◌, ℕ, zero, suc, ◌<◌, Bool, true, false, cond, eqb, List, [], ◌∷◌, ◌++◌, map, length, Option, Some, sym, ap, subst, ◌∙◌, refl, inl, inr, arith}
use Rattle.std.specs.Prelude.{is_some, slice_get, slice_set}
use Rattle.std.specs.FinMap.{FinMap, empty, get, get-empty}
use Rattle.std.specs.Option.{option_and_then, option_map_or}
use Rattle.std.proofs.lemmas.Bool.{and_parts, eqb-true}
use Rattle.net_types.proofs.OrderLemmas.{prefixes_total, prefix_tie}
use Rattle.net_types.proofs.OrderedLemmas.{ordered_same, ordered_rises}
use Rattle.net_types.proofs.PrefixLemmas.{prefix_ext}
use Rattle.net_types.specs.Exports.{same_prefix}
use Rattle.net_types.specs.Keys.{RouteKey, prefix_cmp, route_cmp}
use Rattle.net_types.specs.Maps.{ordered}
use Rattle.net_types.specs.Sets.{Member}
use Rattle.net_types.specs.declared.address.Pid.{Pid}
use Rattle.net_types.specs.declared.prefix.Prefix.{Prefix}
use Rattle.net_types.specs.declared.route.Attrs.{Attrs}
use Rattle.route_server.specs.Listed.{list_at, Lists, StayListed, AreListed, StandAmong}
use Rattle.route_server.specs.Rows.{look}
use Rattle.route_server.specs.Served.{AreAll, Carries, one_after, route_in, routes_of}
use Rattle.route_server.specs.declared.announced.Announced.{Announced}
use Rattle.route_server.specs.declared.announced.Listing.{Listing}
use Rattle.route_server.specs.declared.change.Change.{Change}
use Rattle.route_server.specs.declared.held.Held.{Held}
use Rattle.route_server.proofs.ServedLaws.{get-routes_of}

-- ---- lists

-- one list is another
pub set_lists : (lists : List Listing) (k : ℕ) (l : Listing) (n : ℕ) (p : Prefix) → Member p (list_at lists n) → (n ≡ k → Member p (list_at lists n) → Member p l.prefixes.items) → Member p (list_at (slice_set lists k l) n)
set_lists [] k l n p m h = elim m [ ]
set_lists (x ∷ xs) zero l zero p m h = h refl m
set_lists (x ∷ xs) zero l (suc n) p m h = m
set_lists (x ∷ xs) (suc k) l zero p m h = m
set_lists (x ∷ xs) (suc k) l (suc n) p m h = set_lists xs k l n p m (λ e. h (ap suc e))

-- the list that was set
pub set_list : (lists : List Listing) (k : ℕ) (l : Listing) (p : Prefix) → k < length lists → Member p l.prefixes.items → Member p (list_at (slice_set lists k l) k)
set_list [] k l p within m = absurd (omega arith)
set_list (x ∷ xs) zero l p within m = m
set_list (x ∷ xs) (suc k) l p within m = set_list xs k l p (omega arith) m

-- one list more
pub push_list : (lists : List Listing) (l : Listing) (n : ℕ) (p : Prefix) → Member p (list_at lists n) → Member p (list_at (lists ++ l ∷ []) n)
push_list [] l n p m = elim m [ ]
push_list (x ∷ xs) l zero p m = m
push_list (x ∷ xs) l (suc n) p m = push_list xs l n p m

-- the list of a place
pub list_there : (lists : List Listing) (n : ℕ) (l : Listing) → slice_get lists n ≡ Some l → list_at lists n ≡ l.prefixes.items
list_there lists n l e = ap (λ o. option_map_or (λ (x : Listing). x.prefixes.items) o []) e

-- ---- rows

-- all routes are listed where a prefix has another row
pub listed_after : (rows new : FinMap prefix_cmp (List Held)) (c : Change) (a b : Announced) → ((q : RouteKey) → route_in new q ≡ one_after c (route_in rows) q) → AreListed rows a → StayListed a b → ((n : ℕ) → is_some (look c.row n) ≡ true → Lists b n c.prefix) → AreListed new b
listed_after rows new c a b routes are stay own k there = by (same_prefix c.prefix k.prefix) refl
  where
    by : (t : Bool) → same_prefix c.prefix k.prefix ≡ t → Lists b k.from.0 k.prefix
    by true e =
        let parts = and_parts (eqb c.prefix.address.0 k.prefix.address.0) (eqb c.prefix.len k.prefix.len) e in
        let is : c.prefix ≡ k.prefix = prefix_ext c.prefix k.prefix (eqb-true c.prefix.address.0 k.prefix.address.0 parts.0) (eqb-true c.prefix.len k.prefix.len parts.1) in
        subst (λ p. Lists b k.from.0 p) is (own k.from.0 (ap is_some (ap (λ u. cond u (look c.row k.from.0) (route_in rows k)) (sym e) ∙ sym (routes k)) ∙ there))
    by false e = stay k.from.0 k.prefix (are k (ap is_some (ap (λ u. cond u (look c.row k.from.0) (route_in rows k)) (sym e) ∙ sym (routes k)) ∙ there))

-- the routes of the row that a prefix has are listed
pub row_listed : (rows : FinMap prefix_cmp (List Held)) (a : Announced) (p : Prefix) (o : Option (List Held)) → AreListed rows a → o ≡ get rows p → (n : ℕ) → is_some (option_and_then (λ row. look row n) o) ≡ true → Lists a n p
row_listed rows a p o are is n there = are (record { from = record { 0 = n }; prefix = p }) (ap (λ w. is_some (option_and_then (λ r. look r n) w)) (sym is) ∙ there)

-- whose route stands in a row is among its participants
pub among_participants : (row : List Held) (n : ℕ) → is_some (look row n) ≡ true → Member (record { 0 = n }) (map (λ (h : Held). h.from) row)
among_participants [] n there = absurd (cc)
among_participants (x ∷ xs) n there = by (eqb x.from.0 n) refl there (among_participants xs n)
  where
    by : (t : Bool) → eqb x.from.0 n ≡ t → is_some (cond t (Some x.attrs) (look xs n)) ≡ true → (is_some (look xs n) ≡ true → Member (record { 0 = n }) (map (λ (h : Held). h.from) xs)) → Member (record { 0 = n }) (map (λ (h : Held). h.from) (x ∷ xs))
    by true e _ _ = inl (λ i. record { 0 = sym (eqb-true x.from.0 n e) i })
    by false _ k later = inr (later k)

-- one member more
pub member_push : {A : Type 0} (xs : List A) (x q : A) (P : Type 0) → (Member q xs → P) → (q ≡ x → P) → Member q (xs ++ x ∷ []) → P
member_push [] x q P one other (inl e) = other e
member_push [] x q P one other (inr m) = elim m [ ]
member_push (y ∷ ys) x q P one other (inl e) = one (inl e)
member_push (y ∷ ys) x q P one other (inr m) = member_push ys x q P (λ k. one (inr k)) other m

-- without rows nothing has to be listed
pub none_listed : (rows : FinMap prefix_cmp (List Held)) (a : Announced) → rows ≡ empty → AreListed rows a
none_listed rows a is k there =
    let none : is_some (route_in rows k) ≡ false = ap (λ o. is_some (option_and_then (λ row. look row k.from.0) o)) (ap (λ m. get m k.prefix) is ∙ get-empty prefix_cmp k.prefix) in
    absurd (let e : true ≡ false = sym there ∙ none in cc)

-- the route at a place
pub look_at : (row : List Held) (i n : ℕ) (h : Held) → slice_get row i ≡ Some h → eqb h.from.0 n ≡ true → is_some (look row n) ≡ true
look_at [] i n h e same = absurd (cc)
look_at (x ∷ xs) zero n h e same = by (eqb x.from.0 n) (ap (λ o. option_map_or (λ (y : Held). eqb y.from.0 n) o false) e ∙ same)
  where
    by : (t : Bool) → t ≡ true → is_some (cond t (Some x.attrs) (look xs n)) ≡ true
    by true _ = refl
    by false f = absurd (cc)
look_at (x ∷ xs) (suc i) n h e same = by (eqb x.from.0 n) (look_at xs i n h e same)
  where
    by : (t : Bool) → is_some (look xs n) ≡ true → is_some (cond t (Some x.attrs) (look xs n)) ≡ true
    by true _ = refl
    by false later = later

-- ---- in order

-- what is listed, in order, stands among others
pub listed_among : (rows : FinMap prefix_cmp (List Held)) (a : Announced) (m : FinMap route_cmp Attrs) (from : Pid) (xs ps : List Prefix) → routes_of rows ≡ m → AreListed rows a → ((p : Prefix) → Lists a from.0 p → Member p xs) → ps ≡ ordered prefix_cmp xs → StandAmong m from ps
listed_among rows a m from xs ps same are lists is = subst (StandAmong m from) (sym is) (record {
  rising = ordered_rises prefix_cmp prefixes_total prefix_tie xs;
  all = λ p there. let k : RouteKey = record { from = from; prefix = p } in
      (ordered_same prefix_cmp prefixes_total prefix_tie xs).back p (lists p (are k (ap is_some (sym (get-routes_of rows k) ∙ ap (λ n. get n k) same) ∙ there)));
})

-- all prefixes are among them too
pub all_among : (m : FinMap route_cmp Attrs) (from : Pid) (ps : List Prefix) → AreAll m ps → StandAmong m from ps
all_among m from ps are = record {
  rising = are.rising;
  all = λ p there. are.all (record { from = from; prefix = p }) there;
}

-- another list of a participant that has all its prefixes
pub relisted : (rows : FinMap prefix_cmp (List Held)) (a b : Announced) (m : FinMap route_cmp Attrs) (from : Pid) (ps : List Prefix) → routes_of rows ≡ m → AreListed rows a → Carries m from ps
    → ((n : ℕ) (p : Prefix) → Lists a n p → (n ≡ from.0 → Member p ps) → Lists b n p) → AreListed rows b
relisted rows a b m from ps same are carries keep k there =
    keep k.from.0 k.prefix (are k there) (λ e.
    carries.all k.prefix (ap is_some (ap (λ f. get m (record { from = record { 0 = f }; prefix = k.prefix })) (sym e) ∙ ap (λ n. get n k) (sym same) ∙ get-routes_of rows k) ∙ there))
