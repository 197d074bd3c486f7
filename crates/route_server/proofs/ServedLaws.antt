-- What a route server holds for one prefix is its row.
use Rattle.std.proofs.Common.{◌≡◌, ℕ, ◌+◌, ◌<◌, Bool, true, false, cond, eqb, List, [], ◌∷◌, ◌++◌, map, length, Option, Some, None, sym, ap, subst, ◌∙◌, refl, arith}
use Rattle.std.specs.Prelude.{flat_map, IfSome}
use Rattle.std.specs.List.{list_any, filter_map, cons_option}
use Rattle.std.specs.Option.{option_and_then, option_map}
use Rattle.std.specs.Ordering.{eq_by_cmp}
use Rattle.std.specs.FinMap.{FinMap, empty, get, get-empty, insert, remove, entries, find, same_map, get-entries, get-insert, get-remove}
use Rattle.route_server.specs.declared.change.Change.{Change}
use Rattle.std.proofs.lemmas.Bool.{and_parts, and_from, or_parts, eqb-true, both_ways, false_from_ne_true}
use Rattle.std.proofs.lemmas.List.Folds.{list_any-append}
use Rattle.net_types.proofs.PrefixLemmas.{prefix_ext}
use Rattle.net_types.proofs.OrderLemmas.{routes_total, prefixes_total, prefix_tie}
use Rattle.net_types.proofs.TieLemmas.{route_cmp-IsAntisymmetric, route_tie, ties_itself}
use Rattle.net_types.proofs.MapLemmas.{get-tabulate}
use Rattle.net_types.specs.Keys.{RouteKey, prefix_cmp, route_cmp}
use Rattle.net_types.specs.Exports.{same_prefix}
use Rattle.net_types.specs.Routes.{Candidate, pids}
use Rattle.net_types.specs.Signatures.{part, signature}
use Rattle.net_types.specs.Routes.{best_of}
use Rattle.net_types.specs.Changes.{best_attrs}
use Rattle.net_types.specs.declared.prefix.Prefix.{Prefix}
use Rattle.net_types.specs.declared.route.Attrs.{Attrs}
use Rattle.net_types.specs.declared.address.Pid.{Pid}
use Rattle.net_types.specs.declared.export.ExportRule.{ExportRule}
use Rattle.registry.specs.Registered.{Registered}
use Rattle.net_types.specs.Exports.{Routing}
use Rattle.route_server.specs.Rows.{settled, settled_by, offered, look, Rising, part_of, signature_of}
use Rattle.route_server.specs.Served.{Served, keys_in, route_in, routes_of, AreRows, routing, one_after, route_after, Reaches}
use Rattle.route_server.specs.declared.held.Held.{Held}
use Rattle.route_server.specs.declared.terms.Terms.{Terms}
use Rattle.route_server.proofs.RowLaws.{candidates_offered, look_below}
use Rattle.net_types.proofs.SameLemmas.{nat_itself}

same_key : (q : RouteKey) (p : Prefix) (h : Held) → eq_by_cmp prefix_cmp q.prefix p ≡ true → eqb h.from.0 q.from.0 ≡ true → eq_by_cmp route_cmp q (record { from = h.from; prefix = p }) ≡ true
same_key q p h s e =
    let prefix = prefix_tie q.prefix p s in
    let from = eqb-true h.from.0 q.from.0 e in
    let is : q ≡ record { from = h.from; prefix = p } = λ i. record { from = record { 0 = sym from i }; prefix = prefix i } in
    subst (λ k. eq_by_cmp route_cmp q k ≡ true) is (ties_itself routes_total q)

not_in_row : (q : RouteKey) (p : Prefix) (row : List Held) → eq_by_cmp prefix_cmp q.prefix p ≡ true → list_any (eq_by_cmp route_cmp q) (map (λ (h : Held). record { from = h.from; prefix = p }) row) ≡ false → look row q.from.0 ≡ None
not_in_row q p [] s none = refl
not_in_row q p (h ∷ hs) s none =
    let parts = or_parts (eq_by_cmp route_cmp q (record { from = h.from; prefix = p })) (list_any (eq_by_cmp route_cmp q) (map (λ (h : Held). record { from = h.from; prefix = p }) hs)) none in
    ap (λ b. cond b (Some h.attrs) (look hs q.from.0)) (false_from_ne_true (eqb h.from.0 q.from.0) (λ e. both_ways _ parts.0 (same_key q p h s e)))
    ∙ not_in_row q p hs s parts.1

not_listed : (es : List (Prefix × List Held)) (q : RouteKey) → list_any (eq_by_cmp route_cmp q) (flat_map keys_in es) ≡ false → option_and_then (λ row. look row q.from.0) (find prefix_cmp q.prefix es) ≡ None
not_listed [] q none = refl
not_listed (e ∷ es) q none = listed_step (eq_by_cmp prefix_cmp q.prefix e.0) refl (not_listed es q parts.1)
  where
    parts : (list_any (eq_by_cmp route_cmp q) (keys_in e) ≡ false) × (list_any (eq_by_cmp route_cmp q) (flat_map keys_in es) ≡ false)
    parts = or_parts _ _ (sym (list_any-append (eq_by_cmp route_cmp q) (keys_in e) (flat_map keys_in es)) ∙ none)

    listed_step : (b : Bool) → eq_by_cmp prefix_cmp q.prefix e.0 ≡ b → option_and_then (λ row. look row q.from.0) (find prefix_cmp q.prefix es) ≡ None → option_and_then (λ row. look row q.from.0) (cond b (Some e.1) (find prefix_cmp q.prefix es)) ≡ None
    listed_step true s later = not_in_row q e.0 e.1 s parts.0
    listed_step false s later = later

got : {X : Type 0} (b : Bool) (o : Option X) → (b ≡ false → o ≡ None) → cond b o None ≡ o
got true o h = refl
got false o h = sym (h refl)

-- the routes are what the rows have
pub get-routes_of : (rows : FinMap prefix_cmp (List Held)) (q : RouteKey) → get (routes_of rows) q ≡ route_in rows q
get-routes_of rows q =
    get-tabulate route_cmp routes_total (route_in rows) (λ a k e. ap (route_in rows) (sym (route_tie a k e))) (flat_map keys_in (entries rows)) q
    ∙ got (list_any (eq_by_cmp route_cmp q) (flat_map keys_in (entries rows))) (route_in rows q)
    (λ none. ap (option_and_then (λ row. look row q.from.0)) (get-entries rows q.prefix) ∙ not_listed (entries rows) q none)

pub rows_rise : (rows : FinMap prefix_cmp (List Held)) (p : Prefix) (row : List Held) → AreRows rows → Some row ≡ get rows p → Rising 0 256 row
rows_rise rows p row are e = subst (λ o. IfSome o (λ r. Rising 0 256 r)) (sym e) (are p)

-- where all in the row are below n
rising_below : (n low : ℕ) (row : List Held) → Rising low 256 row → ((m : ℕ) → IfSome (look row m) (λ _. m < n)) → Rising low n row
rising_below n low [] r h = tt
rising_below n low (x ∷ xs) r h = (r.0, subst (λ b. IfSome (cond b (Some x.attrs) (look xs x.from.0)) (λ _. x.from.0 < n)) (nat_itself x.from.0) (h x.from.0), rising_below n (x.from.0 + 1) xs r.2 (λ m. below_step m (eqb x.from.0 m) refl (h m)))
  where
    below_step : (m : ℕ) (b : Bool) → eqb x.from.0 m ≡ b → IfSome (cond b (Some x.attrs) (look xs m)) (λ _. m < n) → IfSome (look xs m) (λ _. m < n)
    below_step m true e k = let is = eqb-true x.from.0 m e in subst (λ o. IfSome o (λ _. m < n)) (sym (look_below m (x.from.0 + 1) 256 xs r.2 (omega (arith, is)))) tt
    below_step m false e k = k

-- what is settled, by its parts
pub settled_is : (t : Terms) (names : Registered) (rules : List (List ExportRule)) (named : List (List Pid)) → t.names.now ≡ names → t.rules.now ≡ rules → t.named.now ≡ named → settled_by t ≡ settled names rules named
settled_is t names rules named e f g = λ i. settled (e i) (f i) (g i)

-- the best of a row is the best of all
pub best_of_row : (names : Registered) (s : Served) (r : Routing) (row : List Held) (to : Pid) (p : Prefix) → r ≡ settled names s.rules s.named → Rising 0 256 row → ((from : Pid) → get s.routes (record { from = from; prefix = p }) ≡ look row from.0) → ((k : RouteKey) → IfSome (get s.routes k) (λ _. k.from.0 < length names.participants))
    → option_map (λ (g : Candidate). g.attrs) (best_of (offered r to p row)) ≡ best_attrs (routing names s) to p
best_of_row names s r row to p same rising is declared =
    ap (λ x. option_map (λ (g : Candidate). g.attrs) (best_of (offered x to p row))) same
    ∙ ap (λ gs. option_map (λ (g : Candidate). g.attrs) (best_of gs)) (sym (candidates_offered (routing names s) to p row
    (rising_below (length names.participants) 0 row rising (λ m. subst (λ o. IfSome o (λ _. m < length names.participants)) (is (record { 0 = m })) (declared (record { from = record { 0 = m }; prefix = p }))))
    is))

pub same_prefix_self : (p : Prefix) → same_prefix p p ≡ true
same_prefix_self p = and_from (eqb p.address.0 p.address.0) (eqb p.len p.len) (nat_itself p.address.0) (nat_itself p.len)

same_of : (p q : Prefix) → eq_by_cmp prefix_cmp q p ≡ same_prefix p q
same_of p q = tied_is (eq_by_cmp prefix_cmp q p) refl (same_prefix p q) refl
  where
    tied_is : (b : Bool) → eq_by_cmp prefix_cmp q p ≡ b → (d : Bool) → same_prefix p q ≡ d → b ≡ d
    tied_is true e true k = refl
    tied_is true e false k = sym (subst (λ x. same_prefix p x ≡ true) (sym (prefix_tie q p e)) (same_prefix_self p)) ∙ k
    tied_is false e true k =
        let parts = and_parts (eqb p.address.0 q.address.0) (eqb p.len q.len) k in
        let is : q ≡ p = prefix_ext q p (sym (eqb-true p.address.0 q.address.0 parts.0)) (sym (eqb-true p.len q.len parts.1)) in
        sym e ∙ subst (λ x. eq_by_cmp prefix_cmp q x ≡ true) is (ties_itself prefixes_total q)
    tied_is false e false k = refl

-- a prefix gets a row
pub get-put : (rows : FinMap prefix_cmp (List Held)) (p : Prefix) (row : List Held) (q : Prefix) → get (insert rows p row) q ≡ cond (same_prefix p q) (Some row) (get rows q)
get-put rows p row q = get-insert prefixes_total rows p row q ∙ ap (λ b. cond b (Some row) (get rows q)) (same_of p q)

-- a prefix loses its row
pub get-taken : (rows : FinMap prefix_cmp (List Held)) (p q : Prefix) → get (remove rows p) q ≡ cond (same_prefix p q) None (get rows q)
get-taken rows p q = get-remove prefixes_total rows p q ∙ ap (λ b. cond b None (get rows q)) (same_of p q)

-- rows that change at one prefix
pub rows_update : (rows new : FinMap prefix_cmp (List Held)) (key : Prefix) (w : Option (List Held)) → ((q : Prefix) → get new q ≡ cond (same_prefix key q) w (get rows q)) → AreRows rows → IfSome w (λ row. Rising 0 256 row) → AreRows new
rows_update rows new key w h are now p = subst (λ o. IfSome o (λ row. Rising 0 256 row)) (sym (h p)) (either (same_prefix key p))
  where
    either : (b : Bool) → IfSome (cond b w (get rows p)) (λ row. Rising 0 256 row)
    either true = now
    either false = are p

row_route : (b : Bool) (w o : Option (List Held)) (n : ℕ) (looks : Option Attrs) → option_and_then (λ row. look row n) w ≡ looks → option_and_then (λ row. look row n) (cond b w o) ≡ cond b looks (option_and_then (λ row. look row n) o)
row_route true w o n looks e = e
row_route false w o n looks e = refl

-- and so do the routes
pub route_update : (rows new : FinMap prefix_cmp (List Held)) (c : Change) (w : Option (List Held)) → ((q : Prefix) → get new q ≡ cond (same_prefix c.prefix q) w (get rows q)) → ((n : ℕ) → option_and_then (λ row. look row n) w ≡ look c.row n) → (q : RouteKey) → route_in new q ≡ one_after c (route_in rows) q
route_update rows new c w h looks q =
    ap (option_and_then (λ row. look row q.from.0)) (h q.prefix)
    ∙ row_route (same_prefix c.prefix q.prefix) w (get rows q.prefix) q.from.0 (look c.row q.from.0) (looks q.from.0)

pub look-empty : (row : List Held) (n : ℕ) → length row ≡ 0 → ◌≡◌ {A = Option Attrs} None (look row n)
look-empty [] n e = refl
look-empty (x ∷ xs) n e = absurd (omega arith)

route_after_push : (cs : List Change) (c : Change) (f : RouteKey → Option Attrs) (q : RouteKey) → route_after (cs ++ c ∷ []) f q ≡ one_after c (route_after cs f) q
route_after_push [] c f q = refl
route_after_push (d ∷ cs) c f q = route_after_push cs c (one_after d f) q

pub route_after_alike : (cs : List Change) (f g : RouteKey → Option Attrs) → ((q : RouteKey) → f q ≡ g q) → (q : RouteKey) → route_after cs f q ≡ route_after cs g q
route_after_alike [] f g h q = h q
route_after_alike (c ∷ cs) f g h q = route_after_alike cs (one_after c f) (one_after c g) (λ k. ap (cond (same_prefix c.prefix k.prefix) (look c.row k.from.0)) (h k)) q

-- one row more is put
pub put_more : (cs : List Change) (c : Change) (f g now : RouteKey → Option Attrs) → ((q : RouteKey) → g q ≡ route_after cs f q) → ((q : RouteKey) → now q ≡ one_after c g q) → (q : RouteKey) → now q ≡ route_after (cs ++ c ∷ []) f q
put_more cs c f g now h step q = step q ∙ ap (cond (same_prefix c.prefix q.prefix) (look c.row q.from.0)) (h q) ∙ sym (route_after_push cs c f q)

-- the routes afterwards are those that the changes reach
pub committed : (rows new : FinMap prefix_cmp (List Held)) (cs : List Change) (m after : FinMap route_cmp Attrs) → routes_of rows ≡ m → ((q : RouteKey) → route_in new q ≡ route_after cs (route_in rows) q) → Reaches cs m after → routes_of new ≡ after
committed rows new cs m after is h reaches = same_map routes_total route_cmp-IsAntisymmetric (routes_of new) after (λ q.
    get-routes_of new q ∙ h q ∙ route_after_alike cs (route_in rows) (get m) (λ k. sym (get-routes_of rows k) ∙ ap (λ n. get n k) is) q ∙ reaches.routes q)

-- the signature of a prefix is that of its row
pub signature_of_row : (names : Registered) (s : Served) (r : Routing) (row : List Held) (p : Prefix) → r ≡ settled names s.rules s.named → Rising 0 256 row → ((from : Pid) → get s.routes (record { from = from; prefix = p }) ≡ look row from.0) → ((k : RouteKey) → IfSome (get s.routes k) (λ _. k.from.0 < length names.participants))
    → signature_of r p row ≡ signature (routing names s) p
signature_of_row names s r row p same rising is declared =
    ap (λ x. signature_of x p row) same
    ∙ sym (parts_alike (pids (routing names s)))
  where
    below : Rising 0 (length names.participants) row
    below = rising_below (length names.participants) 0 row rising (λ m. subst (λ o. IfSome o (λ _. m < length names.participants)) (is (record { 0 = m })) (declared (record { from = record { 0 = m }; prefix = p })))

    parts_alike : (ws : List Pid) → filter_map (part (routing names s) p) ws ≡ filter_map (λ to. part_of (routing names s) to (offered (routing names s) to p row)) ws
    parts_alike [] = refl
    parts_alike (w ∷ ws) = ap (λ gs. cons_option (part_of (routing names s) w gs) (filter_map (part (routing names s) p) ws)) (candidates_offered (routing names s) w p row below is)
        ∙ ap (cons_option (part_of (routing names s) w (offered (routing names s) w p row))) (parts_alike ws)

-- without rows there are no routes
pub no_rows : (rows : FinMap prefix_cmp (List Held)) → rows ≡ empty → AreRows rows
no_rows rows is p = subst (λ o. IfSome o (λ row. Rising 0 256 row)) (sym (ap (λ m. get m p) is ∙ get-empty prefix_cmp p)) tt

pub no_routes : (rows : FinMap prefix_cmp (List Held)) → rows ≡ empty → routes_of rows ≡ empty
no_routes rows is = same_map routes_total route_cmp-IsAntisymmetric (routes_of rows) empty (λ q.
    get-routes_of rows q ∙ ap (option_and_then (λ row. look row q.from.0)) (ap (λ m. get m q.prefix) is ∙ get-empty prefix_cmp q.prefix) ∙ sym (get-empty route_cmp q))
