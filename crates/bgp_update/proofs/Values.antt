-- The update that is made of a message's parts is theirs.
use Rattle.bgp_update.proofs.OneUpdate.{type_trans}
use Rattle.std.proofs.Common.{◌≡◌, ℕ, ◌≤◌, Bool, true, false, cond, List, [], ◌∷◌, eqb, refl, ap, ◌∙◌, inl, inr, arith}
use Rattle.std.specs.Prelude.{Option, Some, None, is_some, ◌&&◌}
use Rattle.std.specs.Option.{option_and_then, option_map}
use Rattle.std.proofs.lemmas.Bool.{eq-eqb, false≢true, lt-ltb, ltb-false}
use Rattle.std.proofs.lemmas.List.Sums.{sum_by-cons}
use Rattle.net_types.specs.Keys.{prefix_cmp}
use Rattle.net_types.specs.Maps.{ordered}
use Rattle.net_types.specs.Sets.{IsRising, Member}
use Rattle.net_types.specs.UpdateFormat.{Parts, is_complete, no_types}
use Rattle.net_types.specs.UpdateReading.{attrs_for, by_type, insert_unknown, update_of}
use Rattle.net_types.specs.UpdateSpelling.{AreAttrs, IsOrdered, IsUpdateOf, is_type_before}
use Rattle.net_types.specs.UpdateValue.{Said, said, said_path}
use Rattle.net_types.specs.declared.address.Ip.{Ip}
use Rattle.net_types.specs.declared.prefix.Prefix.{Prefix}
use Rattle.net_types.specs.declared.route.Attrs.{Attrs}
use Rattle.net_types.specs.declared.route.Segment.{Segment}
use Rattle.net_types.specs.declared.route.Unknown.{Unknown}
use Rattle.bgp_update.proofs.PathLists.{path_there}
use Rattle.bgp_update.proofs.PrefixLists.{is_ordered, ordered_without}
use Rattle.bgp_update.proofs.UnknownLists.{count, counted, one_each, said_unknowns, unknowns_of}
use Rattle.bgp_update.specs.Answers.{AreNew}

-- ---- unknown attributes by type

onto_case : (u v : Unknown) (vs : List Unknown) (x : Unknown) (b : Bool) → (Member x (insert_unknown u vs) → Member x (u ∷ vs))
    → Member x (cond b (v ∷ insert_unknown u vs) (u ∷ v ∷ vs)) → Member x (u ∷ v ∷ vs)
onto_case u v vs x true later (inl e) = inr (inl e)
onto_case u v vs x true later (inr m) = elim (later m) [ inl e ↦ inl e | inr n ↦ inr (inr n) ]
onto_case u v vs x false later m = m

insert_onto : (u : Unknown) (vs : List Unknown) (x : Unknown) → Member x (insert_unknown u vs) → Member x (u ∷ vs)
insert_onto u [] x m = m
insert_onto u (v ∷ vs) x m = onto_case u v vs x (is_type_before v u) (insert_onto u vs x) m

back_case : (u v : Unknown) (vs : List Unknown) (x : Unknown) (b : Bool) → (Member x (u ∷ vs) → Member x (insert_unknown u vs))
    → Member x (u ∷ v ∷ vs) → Member x (cond b (v ∷ insert_unknown u vs) (u ∷ v ∷ vs))
back_case u v vs x true later (inl e) = inr (later (inl e))
back_case u v vs x true later (inr (inl e)) = inl e
back_case u v vs x true later (inr (inr m)) = inr (later (inr m))
back_case u v vs x false later m = m

insert_back : (u : Unknown) (vs : List Unknown) (x : Unknown) → Member x (u ∷ vs) → Member x (insert_unknown u vs)
insert_back u [] x m = m
insert_back u (v ∷ vs) x m = back_case u v vs x (is_type_before v u) (insert_back u vs x) m

by_type_onto : (us : List Unknown) (x : Unknown) → Member x (by_type us) → Member x us
by_type_onto [] x m = m
by_type_onto (u ∷ us) x m = elim (insert_onto u (by_type us) x m) [ inl e ↦ inl e | inr n ↦ inr (by_type_onto us x n) ]

by_type_back : (us : List Unknown) (x : Unknown) → Member x us → Member x (by_type us)
by_type_back [] x m = m
by_type_back (u ∷ us) x (inl e) = insert_back u (by_type us) x (inl e)
by_type_back (u ∷ us) x (inr m) = insert_back u (by_type us) x (inr (by_type_back us x m))

-- one whose type isn't lower and is another is before
after : (u v : Unknown) → is_type_before v u ≡ false → (u.kind ≡ v.kind → ⊥) → is_type_before u v ≡ true
after u v e apart =
    let le : u.kind ≤ v.kind = ltb-false v.kind u.kind e in
    lt-ltb u.kind v.kind (omega (arith, le, apart))

rising_case : (u v : Unknown) (vs : List Unknown) (b : Bool) → is_type_before v u ≡ b → IsRising is_type_before (v ∷ vs) → (u.kind ≡ v.kind → ⊥) → IsRising is_type_before (insert_unknown u vs)
    → IsRising is_type_before (cond b (v ∷ insert_unknown u vs) (u ∷ v ∷ vs))
rising_case u v vs true e r apart later = (
  λ y m. elim (insert_onto u vs y m) [
    | inl same ↦ ap (is_type_before v) same ∙ e
    | inr n ↦ r.0 y n
  ],
  later,
)
rising_case u v vs false e r apart later =
    let first : is_type_before u v ≡ true = after u v e apart in
    (λ y m. elim m [ inl same ↦ ap (is_type_before u) same ∙ first | inr n ↦ type_trans u v y first (r.0 y n) ], r)

insert_rising : (u : Unknown) (vs : List Unknown) → IsRising is_type_before vs → ((v : Unknown) → Member v vs → u.kind ≡ v.kind → ⊥) → IsRising is_type_before (insert_unknown u vs)
insert_rising u [] r apart = (λ y m. elim m [ ], tt)
insert_rising u (v ∷ vs) r apart = rising_case u v vs (is_type_before v u) refl r (apart v (inl refl)) (insert_rising u vs r.1 (λ w m. apart w (inr m)))

by_type_rising : (us : List Unknown) → ((q : ℕ) → count q us ≤ 1) → IsRising is_type_before (by_type us)
by_type_rising [] once = tt
by_type_rising (u ∷ us) once =
    insert_rising u (by_type us) (by_type_rising us (λ q. omega (arith, once q, sum_by-cons (λ (w : Unknown). cond (eqb q w.kind) 1 0) u us))) (λ v m e.
    let later : 1 ≤ count u.kind us = counted u.kind us v (by_type_onto us v m) e in
    let here : cond (eqb u.kind u.kind) 1 0 ≡ 1 = ap (λ (b : Bool). let n : ℕ = cond b 1 0 in n) (eq-eqb u.kind u.kind refl) in
    omega (arith, later, here, once u.kind, sum_by-cons (λ (w : Unknown). cond (eqb u.kind w.kind) 1 0) u us))

-- ---- attributes

whole : (s : Said) (p : Prefix) (ps : List Prefix) (o : Option ℕ) (path : Option (List Segment)) (ip : Option Ip) → s.origin ≡ o → said_path s ≡ path → s.next_hop ≡ ip
    → (is_some o && (is_some path && is_some ip)) ≡ true → IsRising is_type_before (by_type s.unknown)
    → AreAttrs s (p ∷ ps) (option_and_then (λ (origin : ℕ). option_and_then (λ (path : List Segment). option_map (λ (next_hop : Ip). let a : Attrs = record {
      origin = origin;
      path = path;
      next_hop = next_hop;
      med = s.med;
      atomic = s.atomic;
      aggregator = s.aggregator;
      communities = s.communities;
      communities_partial = s.communities_partial;
      unknown = by_type s.unknown;
    } in a) ip) path) o)
whole s p ps None path ip e f g t r = absurd (false≢true t)
whole s p ps (Some o) None ip e f g t r = absurd (false≢true t)
whole s p ps (Some o) (Some path) None e f g t r = absurd (false≢true t)
whole s p ps (Some o) (Some path) (Some ip) e f g t r = record {
  origin = e;
  path = f;
  next_hop = g;
  med = refl;
  atomic = refl;
  aggregator = refl;
  communities = refl;
  communities_partial = refl;
  rising = r;
  same = record { onto = by_type_onto s.unknown; back = by_type_back s.unknown };
}

given : (s : Said) (ps : List Prefix) → is_complete s ps ≡ true → IsRising is_type_before (by_type s.unknown) → AreAttrs s ps (attrs_for s ps)
given s [] t r = tt
given s (p ∷ ps) t r =
    let same : (is_some s.origin && (is_some (said_path s) && is_some s.next_hop)) ≡ (is_some s.origin && (is_some s.path && is_some s.next_hop)) = ap (λ (b : Bool). is_some s.origin && (b && is_some s.next_hop)) (path_there s) in
    whole s p ps s.origin (said_path s) s.next_hop refl refl refl (same ∙ t) r

-- ---- the whole

pub is_update_of : (parts : Parts) → AreNew no_types parts.attributes → is_complete (said parts.attributes) parts.announced ≡ true → IsUpdateOf parts (update_of parts)
is_update_of parts new complete =
    let announced : IsOrdered (ordered prefix_cmp parts.announced) parts.announced = is_ordered parts.announced in
    record {
      announced = announced;
      withdrawn = ordered_without (ordered prefix_cmp parts.withdrawn) parts.withdrawn parts.announced (is_ordered parts.withdrawn);
      attrs = given (said parts.attributes) parts.announced complete (by_type_rising (said parts.attributes).unknown (λ q.
          let is : count q (said parts.attributes).unknown ≡ count q (unknowns_of parts.attributes) = ap (count q) (said_unknowns parts.attributes) in
          omega (arith, is, one_each no_types parts.attributes new q)));
    }
