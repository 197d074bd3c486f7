-- Other names of one participant.
use Rattle.std.proofs.Math.Bool.{and-false}
use Rattle.std.proofs.Common.{◌≡◌, ℕ, ◌<◌, Bool, true, false, cond, ◌&&◌, ◌||◌, not, eqb, List, [], ◌∷◌, map, filter, length, set, sym, ap, subst, ◌∙◌, refl, inl, inr, true≢false}
use Rattle.std.specs.Prelude.{Option, Some, None, is_some, nat_lt}
use Rattle.std.specs.List.{list_any, filter_map, cons_option}
use Rattle.std.specs.Option.{option_map, option_and_then}
use Rattle.std.specs.FinMap.{FinMap, get}
use Rattle.std.specs.Cmp.{nat_eq_equiv}
use Rattle.std.proofs.lemmas.Bool.{or_parts, eqb-true, false_from_ne_true, ltb-false, ltb-true}
use Rattle.std.proofs.lemmas.List.{set_past}
use Rattle.net_types.specs.Changes.{Differs}
use Rattle.net_types.specs.Exports.{Routing, named_by, is_given, route}
use Rattle.net_types.specs.Keys.{route_cmp}
use Rattle.net_types.specs.Routes.{Candidate, best, candidate, candidates, given, pids}
use Rattle.net_types.specs.Sets.{Member}
use Rattle.net_types.specs.Signatures.{counts, offer, part, signature, trimmed, trimmed_part}
use Rattle.net_types.specs.declared.address.Pid.{Pid}
use Rattle.net_types.specs.declared.prefix.Prefix.{Prefix}
use Rattle.net_types.specs.declared.route.Attrs.{Attrs}
use Rattle.net_types.specs.declared.route.Offer.{Offer}
use Rattle.net_types.specs.declared.route.Part.{Part}
use Rattle.route_server.specs.Proposed.{added, both, trimmed_routing}
use Rattle.route_server.specs.Served.{CarryAny}
use Rattle.route_server.proofs.ExportLaws.{set_lists}
use Rattle.route_server.proofs.RowLaws.{filter_map_alike}
use Rattle.net_types.proofs.PassLemmas.{counts_both, filter-map}

abbrev named_in : List Pid → ℕ → Bool
named_in names n = list_any (λ (q : Pid). eqb q.0 n) names

pid_is : (p q : Pid) → p.0 ≡ q.0 → p ≡ q
pid_is p q e = λ i. record { 0 = e i }

-- ---- lists

filter_twice : {A : Type 0} (f g h : A → Bool) → ((x : A) → h x ≡ (g x && f x)) → (xs : List A) → filter f (filter g xs) ≡ filter h xs
filter_twice f g h is [] = refl
filter_twice {A} f g h is (x ∷ xs) = step (g x) (filter_twice f g h is xs) ∙ ap (λ b. cond b (x ∷ filter h xs) (filter h xs)) (sym (is x))
  where
    step : (b : Bool) → filter f (filter g xs) ≡ filter h xs → filter f (cond b (x ∷ filter g xs) (filter g xs)) ≡ cond (b && f x) (x ∷ filter h xs) (filter h xs)
    step true e = ap (λ ys. cond (f x) (x ∷ ys) ys) e
    step false e = e

map_filtered : {A B C : Type 0} (f : B → C) (g : A → Option B) (xs : List A) → map f (filter_map g xs) ≡ filter_map (λ x. option_map f (g x)) xs
map_filtered f g [] = refl
map_filtered {A} {B} {C} f g (x ∷ xs) = step (g x) (map_filtered f g xs)
  where
    step : (o : Option B) → map f (filter_map g xs) ≡ filter_map (λ y. option_map f (g y)) xs → map f (cons_option o (filter_map g xs)) ≡ cons_option (option_map f o) (filter_map (λ y. option_map f (g y)) xs)
    step None e = e
    step (Some y) e = ap (λ ys. f y ∷ ys) e

-- ---- trimmed signatures

module _ (r : Routing) (who : Pid) (named : List Pid) (q : Prefix) (known : who.0 < length r.named) where
  abbrev kept : List Pid
  kept = both (named_by r who) named

  abbrev before : Routing
  before = trimmed_routing r who named

  names_before : (to : Pid) → named_by before to ≡ cond (eqb who.0 to.0) kept (named_by r to)
  names_before to = set_lists r.named who.0 kept to.0 known

  abbrev offers_by : List Pid → Pid → List Candidate → List Offer
  offers_by names chosen cs = map (offer r) (filter (λ (g : Candidate). counts names chosen g.from) cs)

  abbrev part_with : Pid → Candidate → List Offer → Part
  part_with to c os = record { sender = to; best = c.from; offers = os }

  abbrev part_by : List Pid → Pid → List Candidate → Candidate → Part
  part_by names to cs c = part_with to c (offers_by names c.from cs)

  trimmed_offers : (chosen : Pid) (cs : List Candidate) → filter (λ (o : Offer). counts named chosen o.exporter) (offers_by (named_by r who) chosen cs) ≡ offers_by kept chosen cs
  trimmed_offers chosen cs =
      filter-map (λ (o : Offer). counts named chosen o.exporter) (offer r) (filter (λ (g : Candidate). counts (named_by r who) chosen g.from) cs)
      ∙ ap (map (offer r)) (filter_twice (λ (g : Candidate). counts named chosen g.from) (λ (g : Candidate). counts (named_by r who) chosen g.from) (λ (g : Candidate). counts kept chosen g.from)
      (λ g. counts_both (named_by r who) named chosen g.from) cs)

  -- the part of one sender
  part_trimmed : (to : Pid) (cs : List Candidate) (o : Option Candidate) → option_map (trimmed_part who named) (option_map (part_by (named_by r to) to cs) o) ≡ option_map (part_by (named_by before to) to cs) o
  part_trimmed to cs None = refl
  part_trimmed to cs (Some c) = ap (λ (x : Part). Some x) (by (eqb to.0 who.0) refl)
    where
      names : (b : Bool) → eqb to.0 who.0 ≡ b → named_by before to ≡ cond b kept (named_by r to)
      names b e = names_before to ∙ ap (λ t. cond t kept (named_by r to)) (nat_eq_equiv.symm who.0 to.0 ∙ e)

      by : (b : Bool) → eqb to.0 who.0 ≡ b → trimmed_part who named (part_by (named_by r to) to cs c) ≡ part_by (named_by before to) to cs c
      by true e =
          ap (λ t. cond t (part_with to c (filter (λ (o : Offer). counts named c.from o.exporter) (offers_by (named_by r to) c.from cs))) (part_by (named_by r to) to cs c)) e
          ∙ ap (part_with to c) (ap (λ w. filter (λ (o : Offer). counts named c.from o.exporter) (offers_by (named_by r w) c.from cs)) (pid_is to who (eqb-true to.0 who.0 e))
          ∙ trimmed_offers c.from cs ∙ ap (λ ns. offers_by ns c.from cs) (sym (names true e)))
      by false e =
          ap (λ t. cond t (part_with to c (filter (λ (o : Offer). counts named c.from o.exporter) (offers_by (named_by r to) c.from cs))) (part_by (named_by r to) to cs c)) e
          ∙ ap (λ ns. part_by ns to cs c) (sym (names false e))

  pub signature_trimmed : trimmed who named (signature r q) ≡ signature before q
  signature_trimmed =
      map_filtered (trimmed_part who named) (part r q) (pids r)
      ∙ filter_map_alike (λ to. option_map (trimmed_part who named) (part r q to)) (part before q) (λ to. part_trimmed to (candidates r to q) (best r to q)) (pids r)

-- ---- where nobody that is named now and wasn't before has a route, nothing is another

module _ (r : Routing) (who : Pid) (named : List Pid) (known : who.0 < length r.named) (q : Prefix) (none : (f : Pid) → named_in named f.0 ≡ true → named_in (named_by r who) f.0 ≡ false → route r f q ≡ None) where
  abbrev still : List Pid
  still = both (named_by r who) named

  abbrev now : Routing
  now = record r { named = set r.named who.0 named }

  abbrev counted_by : List Pid → Pid → List Candidate → List Candidate
  counted_by names chosen cs = filter (λ (g : Candidate). counts names chosen g.from) cs

  abbrev part_naming : List Pid → Pid → Candidate → Part
  part_naming names to c = record { sender = to; best = c.from; offers = map (offer r) (counted_by names c.from (candidates r to q)) }

  counts_same : (chosen f : Pid) (a : Attrs) → route r f q ≡ Some a → counts still chosen f ≡ counts named chosen f
  counts_same chosen f a there = counts_both (named_by r who) named chosen f ∙ by (eqb f.0 chosen.0) (named_in named f.0) refl (named_in (named_by r who) f.0) refl
    where
      by : (e d : Bool) → named_in named f.0 ≡ d → (o : Bool) → named_in (named_by r who) f.0 ≡ o → ((e || o) && (e || d)) ≡ (e || d)
      by true d t o s = refl
      by false true t true s = refl
      by false true t false s = absurd (true≢false (sym (ap is_some (sym (none f t s) ∙ there))))
      by false false t o s = and-false o

  given_same : (chosen to : Pid) (xs : List Pid) → counted_by still chosen (filter_map (given r to q) xs) ≡ counted_by named chosen (filter_map (given r to q) xs)
  given_same chosen to [] = refl
  given_same chosen to (x ∷ xs) = by (route r x q) refl (given_same chosen to xs)
    where
      one : (b : Bool) (a : Attrs) → route r x q ≡ Some a → counted_by still chosen (filter_map (given r to q) xs) ≡ counted_by named chosen (filter_map (given r to q) xs) → counted_by still chosen (cons_option (cond b (Some (candidate r x a)) None) (filter_map (given r to q) xs)) ≡ counted_by named chosen (cons_option (cond b (Some (candidate r x a)) None) (filter_map (given r to q) xs))
      one true a there e = ap (λ t. cond t (candidate r x a ∷ counted_by still chosen (filter_map (given r to q) xs)) (counted_by still chosen (filter_map (given r to q) xs))) (counts_same chosen x a there) ∙ ap (λ ys. cond (counts named chosen x) (candidate r x a ∷ ys) ys) e
      one false a there e = e

      by : (o : Option Attrs) → route r x q ≡ o → counted_by still chosen (filter_map (given r to q) xs) ≡ counted_by named chosen (filter_map (given r to q) xs)
          → counted_by still chosen (cons_option (option_and_then (λ (attrs : Attrs). cond (is_given r x to q attrs) (Some (candidate r x attrs)) None) o) (filter_map (given r to q) xs)) ≡ counted_by named chosen (cons_option (option_and_then (λ (attrs : Attrs). cond (is_given r x to q attrs) (Some (candidate r x attrs)) None) o) (filter_map (given r to q) xs))
      by None away e = e
      by (Some a) there e = one (is_given r x to q a) a there e

  part_same : (to : Pid) → part (trimmed_routing r who named) q to ≡ part now q to
  part_same to = by (best r to q)
    where
      lists : (b : Bool) (chosen : Pid) → counted_by (cond b still (named_by r to)) chosen (candidates r to q) ≡ counted_by (cond b named (named_by r to)) chosen (candidates r to q)
      lists true chosen = given_same chosen to (pids r)
      lists false chosen = refl

      by : (o : Option Candidate) → option_map (part_naming (named_by (trimmed_routing r who named) to) to) o ≡ option_map (part_naming (named_by now to) to) o
      by None = refl
      by (Some c) = ap (λ (gs : List Candidate). let p : Part = record { sender = to; best = c.from; offers = map (offer r) gs } in Some p) (
          ap (λ names. counted_by names c.from (candidates r to q)) (set_lists r.named who.0 still to.0 known)
          ∙ lists (eqb who.0 to.0) c.from
          ∙ ap (λ names. counted_by names c.from (candidates r to q)) (sym (set_lists r.named who.0 named to.0 known)))

  none_where_known : Differs (trimmed_routing r who named) now q → ⊥
  none_where_known (inl d) = d (filter_map_alike (part (trimmed_routing r who named) q) (part now q) part_same (pids r))
  none_where_known (inr d) = d.2 refl

not_from_itself : (r : Routing) (q : Prefix) → Differs r r q → ⊥
not_from_itself r q (inl d) = d refl
not_from_itself r q (inr d) = d.2 refl

-- and where there is no such participant, nothing is another at all
pub no_names : (r : Routing) (who : Pid) (named : List Pid) (q : Prefix) → ((f : Pid) → named_in named f.0 ≡ true → named_in (named_by r who) f.0 ≡ false → route r f q ≡ None) → Differs (trimmed_routing r who named) (record r { named = set r.named who.0 named }) q → ⊥
no_names r who named q none = by (nat_lt who.0 (length r.named)) refl
  where
    by : (b : Bool) → nat_lt who.0 (length r.named) ≡ b → Differs (trimmed_routing r who named) (record r { named = set r.named who.0 named }) q → ⊥
    by true known = none_where_known r who named (ltb-true who.0 (length r.named) known) q none
    by false past =
        let same : set r.named who.0 (both (named_by r who) named) ≡ set r.named who.0 named = set_past r.named who.0 _ (ltb-false who.0 (length r.named) past) ∙ sym (set_past r.named who.0 named (ltb-false who.0 (length r.named) past)) in
        subst (λ ns. Differs (record r { named = ns }) (record r { named = set r.named who.0 named }) q → ⊥) (sym same) (not_from_itself (record r { named = set r.named who.0 named }) q)

none_added : (old new : List Pid) (g : Pid → Bool) → list_any g (added old new) ≡ false → (x : Pid) → named_in new x.0 ≡ true → named_in old x.0 ≡ false → g x ≡ false
none_added old [] g h x m n = absurd (true≢false (sym m))
none_added old (p ∷ new) g h x m n = by (named_in old p.0) refl h (eqb p.0 x.0) refl m (none_added old new g)
  where
    by : (b : Bool) → named_in old p.0 ≡ b → list_any g (cond (not b) (p ∷ added old new) (added old new)) ≡ false → (e : Bool) → eqb p.0 x.0 ≡ e → (e || named_in new x.0) ≡ true
        → (list_any g (added old new) ≡ false → (y : Pid) → named_in new y.0 ≡ true → named_in old y.0 ≡ false → g y ≡ false) → g x ≡ false
    by true s k true e m later = absurd (true≢false (sym s ∙ ap (named_in old) (eqb-true p.0 x.0 e) ∙ n))
    by true s k false e m later = later k x m n
    by false s k true e m later = ap g (sym (pid_is p x (eqb-true p.0 x.0 e))) ∙ (or_parts (g p) (list_any g (added old new)) k).0
    by false s k false e m later = later (or_parts (g p) (list_any g (added old new)) k).1 x m n

-- elsewhere none of those has a route
pub none_carried : (m : FinMap route_cmp Attrs) (old new : List Pid) (ps : List Prefix) → CarryAny m (added old new) ps → (q : Prefix) → (Member q ps → ⊥) → (f : Pid) → named_in new f.0 ≡ true → named_in old f.0 ≡ false → get m (record { from = f; prefix = q }) ≡ None
none_carried m old new ps are q away f now then =
    none (get m (record { from = f; prefix = q })) (none_added old new (λ (g : Pid). is_some (get m (record { from = g; prefix = q })))
    (false_from_ne_true (list_any (λ (g : Pid). is_some (get m (record { from = g; prefix = q }))) (added old new)) (λ there. away (are.all q there))) f now then)
  where
    none : (o : Option Attrs) → is_some o ≡ false → o ≡ None
    none None e = refl
    none (Some a) e = absurd (true≢false e)
