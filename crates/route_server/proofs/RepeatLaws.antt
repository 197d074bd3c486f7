-- Where nobody has export rules, what a change does rests on its rows alone.
use Rattle.std.proofs.Common.{◌≡◌, ℕ, zero, suc, true, cond, nat_eq, not, ◌&&◌, List, [], ◌∷◌, ◌++◌, map, sum_by, sym, ap, subst, ◌∙◌, refl}
use Rattle.std.specs.Prelude.{Option, Some, None}
use Rattle.std.specs.List.{filter_map, list_all}
use Rattle.std.specs.Option.{option_map}
use Rattle.std.specs.Cmp.Lexicographic.{pointwise, pointwise_decides}
use Rattle.std.proofs.Math.Nat.{ℕ_set}
use Rattle.std.proofs.lemmas.Bool.{and_from, and_parts, eq-eqb, eqb-true}
use Rattle.net_types.proofs.EqualLemmas.{from_itself}
use Rattle.net_types.proofs.SameLemmas.{attrs_itself}
use Rattle.net_types.specs.Attributes.{same_attrs, same_option, same_signature}
use Rattle.net_types.specs.Exports.{Routing, allows, asn_of, is_given, is_in_path, rules_of}
use Rattle.net_types.specs.Paths.{hops_of}
use Rattle.net_types.specs.Routes.{Candidate, best_of, pids}
use Rattle.net_types.specs.declared.address.Pid.{Pid}
use Rattle.net_types.specs.declared.export.ExportRule.{ExportRule}
use Rattle.net_types.specs.declared.prefix.Prefix.{Prefix}
use Rattle.net_types.specs.declared.route.Attrs.{Attrs}
use Rattle.route_server.specs.Effects.{IsEffectOf, best_by_row, place_attrs, same_by_rows}
use Rattle.route_server.specs.Repeated.{AreAlike, AreUnruled, same_held}
use Rattle.route_server.specs.Rows.{held_by, offered, part_of, signature_of}
use Rattle.route_server.specs.declared.change.Change.{Change}
use Rattle.route_server.specs.declared.effect.Effect.{Effect}
use Rattle.route_server.specs.declared.held.Held.{Held}
use Rattle.route_server.proofs.UpdateLaws.{same_attributes}

-- ---- equality of routes

abbrev held : Pid → (hops : ℕ) → (attrs : Attrs) → hops ≡ sum_by hops_of attrs.path → Held
held from hops attrs counted = record { from = from; hops = hops; attrs = attrs; counted = counted }

held_ext : (a b : Held) → a.from ≡ b.from → a.hops ≡ b.hops → a.attrs ≡ b.attrs → a ≡ b
held_ext a b f h t =
    subst (λ attrs. (c : b.hops ≡ sum_by hops_of attrs.path) → a ≡ held b.from b.hops attrs c) t
    (subst (λ hops. (c : hops ≡ sum_by hops_of a.attrs.path) → a ≡ held b.from hops a.attrs c) h
    (λ c. ap (λ from. held from a.hops a.attrs a.counted) f ∙ ap (λ d. held b.from a.hops a.attrs d) (ℕ_set _ _ a.counted c)))
    b.counted

held_right : (a b : Held) → same_held a b ≡ true → a ≡ b
held_right a b e =
    let one = and_parts (nat_eq a.from.0 b.from.0) _ e in
    let two = and_parts (nat_eq a.hops b.hops) _ one.1 in
    let from = eqb-true a.from.0 b.from.0 one.0 in
    held_ext a b (λ i. record { 0 = from i }) (eqb-true a.hops b.hops two.0) (same_attributes a.attrs b.attrs two.1)

held_itself : (a : Held) → same_held a a ≡ true
held_itself a = and_from _ _ (eq-eqb a.from.0 a.from.0 refl) (and_from _ _ (eq-eqb a.hops a.hops refl) (attrs_itself a.attrs))

-- rows of which a test finds the routes equal are equal
pub rows_equal : (xs ys : List Held) → pointwise same_held xs ys ≡ true → xs ≡ ys
rows_equal xs ys e = (pointwise_decides (from_itself same_held held_right held_itself) xs ys).0 e

-- ---- nobody has rules

pub unruled_more : (xs : List (List ExportRule)) (own : List ExportRule) → AreUnruled xs → own ≡ [] → AreUnruled (xs ++ own ∷ [])
unruled_more [] own none e zero = e
unruled_more [] own none e (suc n) = refl
unruled_more (x ∷ xs) own none e zero = none 0
unruled_more (x ∷ xs) own none e (suc n) = unruled_more xs own (λ m. none (suc m)) e n

-- ---- one prefix is as another

module _ (r : Routing) (free : (from : Pid) → rules_of r from ≡ []) where
  given_same : (from to : Pid) (p q : Prefix) (attrs : Attrs) → is_given r from to p attrs ≡ is_given r from to q attrs
  given_same from to p q attrs = ap (λ allow. not (nat_eq from.0 to.0) && not (is_in_path (asn_of r to) attrs.path) && allow) (ap (λ rules. allows rules to p) (free from) ∙ sym (ap (λ rules. allows rules to q) (free from)))

  offered_same : (to : Pid) (p q : Prefix) (row : List Held) → offered r to p row ≡ offered r to q row
  offered_same to p q row = λ i. filter_map (λ (h : Held). cond (given_same h.from to p q h.attrs i) (Some (held_by r h)) None) row

  pub signature_same : (p q : Prefix) (row : List Held) → signature_of r p row ≡ signature_of r q row
  signature_same p q row = λ i. filter_map (λ to. part_of r to (offered_same to p q row i)) (pids r)

  pub best_same : (p q : Prefix) (row : List Held) (to : Pid) → best_by_row r p row to ≡ best_by_row r q row to
  best_same p q row to = ap (λ cs. option_map (λ (c : Candidate). c.attrs) (best_of cs)) (offered_same to p q row)

module _ (r s : Routing) (free : (from : Pid) → rules_of r from ≡ []) (still : (from : Pid) → rules_of s from ≡ []) where
  rows_again : (p q : Prefix) (old new : List Held) → same_by_rows r s p old new ≡ same_by_rows r s q old new
  rows_again p q old new =
      λ i. same_signature (signature_same s still p q new i) (signature_same r free p q old i) && list_all (λ to. same_option same_attrs (best_same r free p q old to i) (best_same s still p q new to i)) (pids r)

  -- the same by equal rows
  by_rows : (old old' : List Held) (c d : Change) → old ≡ old' → c.row ≡ d.row → same_by_rows r s c.prefix old c.row ≡ same_by_rows r s d.prefix old' d.row
  by_rows old old' c d o n = rows_again c.prefix d.prefix old c.row ∙ ap (λ row. same_by_rows r s d.prefix row c.row) o ∙ ap (λ row. same_by_rows r s d.prefix old' row) n

  -- what a change does, another one with the same rows does
  pub effect_again : (old old' : List Held) (c d : Change) (i j : ℕ) (e f : Option Effect) → old ≡ old' → c.row ≡ d.row → AreAlike j d.prefix e f → IsEffectOf r s old c i e → IsEffectOf r s old' d j f
  effect_again old old' c d i j None None o n alike is = sym (by_rows old old' c d o n) ∙ is
  effect_again old old' c d i j (Some e) (Some f) o n alike is = record {
    differs = sym (by_rows old old' c d o n) ∙ is.differs;
    at_is = alike.0;
    prefix_is = alike.1;
    sig = alike.2 ∙ is.sig ∙ signature_same s still c.prefix d.prefix c.row ∙ ap (signature_of s d.prefix) n;
    bests = ap (map (place_attrs d.row)) alike.3 ∙ sym (ap (λ row. map (place_attrs row) e.bests.items) n) ∙ is.bests ∙ (λ k. map (λ to. best_same s still c.prefix d.prefix c.row to k) (pids s)) ∙ ap (λ row. map (best_by_row s d.prefix row) (pids s)) n;
  }
  effect_again old old' c d i j None (Some f) o n alike is = absurd alike
  effect_again old old' c d i j (Some e) None o n alike is = absurd alike
