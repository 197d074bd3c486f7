-- The routes without a participant's.
use Rattle.std.proofs.Common.{◌≡◌, ℕ, ◌+◌, ◌<◌, Bool, true, false, cond, ◌||◌, not, eqb, List, [], ◌∷◌, ◌++◌, map, filter, take, get_or, length, sym, ap, subst, ◌∙◌, refl}
use Rattle.std.specs.Prelude.{Option, Some, None, is_some, IfSome}
use Rattle.std.specs.List.{list_any}
use Rattle.std.specs.Option.{option_and_then}
use Rattle.std.specs.FinMap.{FinMap, get, keys, entries, find, get-entries, get-retain_keys}
use Rattle.std.specs.Ordering.{eq_by_cmp}
use Rattle.std.specs.Cmp.{nat_eq_equiv}
use Rattle.std.proofs.lemmas.Bool.{eqb-true}
use Rattle.std.proofs.lemmas.List.{take_more}
use Rattle.std.proofs.lemmas.List.Elements.{filter-append}
use Rattle.net_types.proofs.LongestLemmas.{any-member}
use Rattle.net_types.proofs.RisingLemmas.{filter-Member, Member-filter, filter-IsRising, keys-IsRising}
use Rattle.net_types.proofs.TieLemmas.{route_cmp-IsAntisymmetric}
use Rattle.net_types.specs.Changes.{without_routes}
use Rattle.net_types.specs.Keys.{RouteKey, prefix_cmp, route_cmp}
use Rattle.net_types.specs.Sets.{Member, IsRising}
use Rattle.net_types.specs.declared.address.Pid.{Pid}
use Rattle.net_types.specs.declared.prefix.Prefix.{Prefix}
use Rattle.net_types.specs.declared.route.Attrs.{Attrs}
use Rattle.registry.specs.Registered.{Registered}
use Rattle.route_server.specs.Edits.{IsEdit}
use Rattle.net_types.specs.declared.export.ExportRule.{ExportRule}
use Rattle.route_server.specs.Effects.{AreRowsOf, routing_after}
use Rattle.route_server.specs.Listed.{StandAmong}
use Rattle.route_server.specs.Rows.{look}
use Rattle.route_server.specs.Served.{AreAll, AreDeclared, AreOwned, Carries, CarryAny, owns, routes_of}
use Rattle.route_server.specs.declared.change.Change.{Change}
use Rattle.route_server.specs.declared.held.Held.{Held}
use Rattle.route_server.proofs.ServedLaws.{get-routes_of}
use Rattle.net_types.proofs.WidthTests.{any_found}

found_key : (p : Prefix) (es : List (Prefix × List Held)) → is_some (find prefix_cmp p es) ≡ list_any (eq_by_cmp prefix_cmp p) (map (λ (e : Prefix × List Held). e.0) es)
found_key p [] = refl
found_key p (e ∷ es) = by (eq_by_cmp prefix_cmp p e.0) (found_key p es)
  where
    by : (b : Bool) → is_some (find prefix_cmp p es) ≡ list_any (eq_by_cmp prefix_cmp p) (map (λ (d : Prefix × List Held). d.0) es) → is_some (cond b (Some e.1) (find prefix_cmp p es)) ≡ (b || list_any (eq_by_cmp prefix_cmp p) (map (λ (d : Prefix × List Held). d.0) es))
    by true h = refl
    by false h = h

row_there : (o : Option (List Held)) (n : ℕ) → is_some (option_and_then (λ row. look row n) o) ≡ true → is_some o ≡ true
row_there None n e = e
row_there (Some row) n e = refl

-- each route's prefix has a row
pub keys_are_all : (rows : FinMap prefix_cmp (List Held)) (ps : List Prefix) (m : FinMap route_cmp Attrs) → ps ≡ keys rows → routes_of rows ≡ m → AreAll m ps
keys_are_all rows ps m is same = record {
  rising = subst (IsRising _) (sym is) (keys-IsRising prefix_cmp rows);
  all = λ k e. subst (Member k.prefix) (sym is) (any-member (keys rows) k.prefix
      (sym (found_key k.prefix (entries rows)) ∙ ap is_some (sym (get-entries rows k.prefix))
      ∙ row_there (get rows k.prefix) k.from.0 (ap is_some (sym (get-routes_of rows k) ∙ ap (λ n. get n k) same) ∙ e)));
}

pub carries : (m : FinMap route_cmp Attrs) (from : Pid) (all ps : List Prefix) → StandAmong m from all → ps ≡ filter (λ p. is_some (get m (record { from = from; prefix = p }))) all → Carries m from ps
carries m from all ps are is =
    let t : Prefix → Bool = λ p. is_some (get m (record { from = from; prefix = p })) in
    subst (Carries m from) (sym is) (record {
      rising = filter-IsRising _ t all are.rising;
      some = λ p k. (filter-Member t all p k).passes;
      all = λ p e. Member-filter t all p (are.all p e) e;
    })

pub carry_any : (m : FinMap route_cmp Attrs) (froms : List Pid) (all ps : List Prefix) → AreAll m all → ps ≡ filter (λ p. list_any (λ (from : Pid). is_some (get m (record { from = from; prefix = p }))) froms) all → CarryAny m froms ps
carry_any m froms all ps are is =
    let t : Prefix → Bool = λ p. list_any (λ (from : Pid). is_some (get m (record { from = from; prefix = p }))) froms in
    subst (CarryAny m froms) (sym is) (record {
      rising = filter-IsRising _ t all are.rising;
      some = λ p k. (filter-Member t all p k).passes;
      all = λ p e. let one = any_found (λ (from : Pid). is_some (get m (record { from = from; prefix = p }))) froms e in Member-filter t all p (are.all (record { from = one.0; prefix = p }) one.1.passes) e;
    })

-- ---- without a participant's routes

module _ (from : Pid) (m : FinMap route_cmp Attrs) where
  get_without : (q : RouteKey) → get (without_routes from m) q ≡ cond (not (eqb q.from.0 from.0)) (get m q) None
  get_without q = get-retain_keys m (λ (k : RouteKey). not (eqb k.from.0 from.0)) q (λ x e. ap (λ (k : RouteKey). not (eqb k.from.0 from.0)) (sym (route_cmp-IsAntisymmetric q x e)))

  turned : (b : Bool) (o : Option Attrs) → cond (not b) o None ≡ cond b None o
  turned true o = refl
  turned false o = refl

  pub without_rows : (cs : List Change) → ((c : Change) → Member c cs → IsEdit m from None c) → AreRowsOf cs (without_routes from m)
  without_rows cs edits = record {
    each = λ c k f. let q : RouteKey = record { from = f; prefix = c.prefix } in
        get_without q ∙ turned (eqb f.0 from.0) (get m q) ∙ ap (λ b. cond b None (get m q)) (nat_eq_equiv.symm f.0 from.0) ∙ sym ((edits c k).looks f);
  }

  pub without_elsewhere : (ps : List Prefix) → Carries m from ps → (q : RouteKey) → (Member q.prefix ps → ⊥) → get (without_routes from m) q ≡ get m q
  without_elsewhere ps are q away = get_without q ∙ by (eqb q.from.0 from.0) refl
    where
      none : (o : Option Attrs) → (is_some o ≡ true → ⊥) → None ≡ o
      none None h = refl
      none (Some x) h = absurd (h refl)

      own : eqb q.from.0 from.0 ≡ true → is_some (get m q) ≡ true → Member q.prefix ps
      own e there =
          let same = eqb-true q.from.0 from.0 e in
          are.all q.prefix (ap (λ n. is_some (get m (record { from = record { 0 = n }; prefix = q.prefix }))) (sym same) ∙ there)

      by : (b : Bool) → eqb q.from.0 from.0 ≡ b → cond (not b) (get m q) None ≡ get m q
      by true e = none (get m q) (λ there. away (own e there))
      by false e = refl

  pub without_declared : (names : Registered) → AreDeclared names m → AreDeclared names (without_routes from m)
  without_declared names are = record { declared = λ k. subst (λ o. IfSome o (λ _. k.from.0 < length names.participants)) (sym (get_without k)) (by k (not (eqb k.from.0 from.0))) }
    where
      by : (k : RouteKey) (b : Bool) → IfSome (cond b (get m k) None) (λ _. k.from.0 < length names.participants)
      by k true = are.declared k
      by k false = tt

  pub without_owned : (names : Registered) (rules : List (List ExportRule)) (named : List (List Pid)) → AreOwned (routing_after names rules named m) → AreOwned (routing_after names rules named (without_routes from m))
  without_owned names rules named are = record { owned = λ k. subst (λ o. IfSome o (fits k)) (sym (get_without k)) (by k (not (eqb k.from.0 from.0))) }
    where
      fits : RouteKey → Attrs → Type 0
      fits k a = (k.from.0 < length names.participants) × (owns (routing_after names rules named m) k.from a.next_hop ≡ true)

      by : (k : RouteKey) (b : Bool) → IfSome (cond b (get m k) None) (fits k)
      by k true = are.owned k
      by k false = tt

-- one more is looked at
pub filter_step : {A : Type 0} (t : A → Bool) (xs : List A) (i : ℕ) (x : A) (b : Bool) → i < length xs → x ≡ get_or xs i x → t x ≡ b → filter t (take (i + 1) xs) ≡ filter t (take i xs) ++ cond b (x ∷ []) []
filter_step t xs i x b within is at =
    ap (filter t) (take_more xs i x within ∙ ap (λ d. take i xs ++ d ∷ []) (sym is)) ∙ filter-append t (take i xs) (x ∷ [])
    ∙ ap (λ u. filter t (take i xs) ++ cond u (x ∷ []) []) at
