-- What changes reach, and where nothing is another.
use Rattle.std.proofs.Common.{◌≡◌, Bool, true, false, cond, eqb, List, [], ◌∷◌, map, filter, sym, ap, subst, ◌∙◌, refl, inl, inr, true≢false}
use Rattle.std.specs.Prelude.{Option, Some, None, unwrap_or}
use Rattle.std.specs.Option.{option_map, option_map_or, option_and_then}
use Rattle.std.specs.FinMap.{FinMap, get}
use Rattle.std.proofs.lemmas.Bool.{and_parts, eqb-true}
use Rattle.net_types.proofs.PrefixLemmas.{prefix_ext}
use Rattle.net_types.specs.Changes.{Differs}
use Rattle.net_types.specs.Exports.{same_prefix, is_given}
use Rattle.net_types.specs.Keys.{RouteKey, route_cmp}
use Rattle.net_types.specs.Routes.{Candidate, given, candidates, candidate, best_of, pids}
use Rattle.net_types.specs.Sets.{Member}
use Rattle.net_types.specs.Signatures.{part, offer, counts}
use Rattle.net_types.specs.declared.address.Pid.{Pid}
use Rattle.net_types.specs.declared.prefix.Prefix.{Prefix}
use Rattle.net_types.specs.declared.route.Attrs.{Attrs}
use Rattle.net_types.specs.declared.route.Part.{Part}
use Rattle.registry.specs.Registered.{Registered}
use Rattle.route_server.specs.Edits.{prefixes_of}
use Rattle.route_server.specs.Effects.{AreRowsOf}
use Rattle.route_server.specs.Rows.{look, names_at}
use Rattle.route_server.specs.Served.{Served, routing, one_after, route_after, Reaches}
use Rattle.route_server.specs.declared.change.Change.{Change}
use Rattle.route_server.proofs.RowLaws.{filter_map_alike}
use Rattle.route_server.proofs.ServedLaws.{same_prefix_self}

same_prefix_is : (p q : Prefix) → same_prefix p q ≡ true → p ≡ q
same_prefix_is p q e = let k = and_parts (eqb p.address.0 q.address.0) (eqb p.len q.len) e in prefix_ext p q (eqb-true p.address.0 q.address.0 k.0) (eqb-true p.len q.len k.1)

module _ (after : FinMap route_cmp Attrs) where
  reach : (cs : List Change) (f : RouteKey → Option Attrs) → ((c : Change) → Member c cs → (from : Pid) → get after (record { from = from; prefix = c.prefix }) ≡ look c.row from.0)
      → ((q : RouteKey) → (Member q.prefix (prefixes_of cs) → ⊥) → f q ≡ get after q) → (q : RouteKey) → route_after cs f q ≡ get after q
  reach [] f rows h q = h q (λ m. elim m [ ])
  reach (c ∷ cs) f rows h q = reach cs (one_after c f) (λ d m. rows d (inr m)) (λ k away. by k away (same_prefix c.prefix k.prefix) refl) q
    where
      moved : (k : RouteKey) → c.prefix ≡ k.prefix → get after (record { from = k.from; prefix = c.prefix }) ≡ get after k
      moved k e = ap (λ p. get after (record { from = k.from; prefix = p })) e

      not_here : (k : RouteKey) → same_prefix c.prefix k.prefix ≡ false → (Member k.prefix (prefixes_of cs) → ⊥) → Member k.prefix (prefixes_of (c ∷ cs)) → ⊥
      not_here k e away (inl at) = true≢false (sym (subst (λ p. same_prefix c.prefix p ≡ true) (sym at) (same_prefix_self c.prefix)) ∙ e)
      not_here k e away (inr m) = away m

      by : (k : RouteKey) → (Member k.prefix (prefixes_of cs) → ⊥) → (b : Bool) → same_prefix c.prefix k.prefix ≡ b → cond b (look c.row k.from.0) (f k) ≡ get after k
      by k away true e = sym (rows c (inl refl) k.from) ∙ moved k (same_prefix_is c.prefix k.prefix e)
      by k away false e = h k (not_here k e away)

  -- with rows of the routes afterwards, and no other routes elsewhere, these routes are reached
  pub changes_reach : (before : FinMap route_cmp Attrs) (cs ds : List Change) → ds ≡ cs → AreRowsOf cs after → ((q : RouteKey) → (Member q.prefix (prefixes_of cs) → ⊥) → get after q ≡ get before q) → Reaches ds before after
  changes_reach before cs ds is rows elsewhere = subst (λ xs. Reaches xs before after) (sym is) (record {
    routes = λ q. reach cs (get before) rows.each (λ k away. sym (elsewhere k away)) q;
  })

-- where the same routes are given to everybody, and the same are named, nothing is another
module _ (names : Registered) (v w : Served) (p : Prefix) (named : v.named ≡ w.named) (same : (to from : Pid) → given (routing names v) to p from ≡ given (routing names w) to p from) where
  cands : (to : Pid) → candidates (routing names v) to p ≡ candidates (routing names w) to p
  cands to = filter_map_alike (given (routing names v) to p) (given (routing names w) to p) (same to) (pids (routing names v))

  abbrev part_by : List (List Pid) → Pid → List Candidate → Option Part
  part_by lists to cs = option_map (λ (c : Candidate). record { sender = to; best = c.from; offers = map (offer (routing names v)) (filter (λ (g : Candidate). counts (names_at lists to.0) c.from g.from) cs) }) (best_of cs)

  parts : (to : Pid) → part (routing names v) p to ≡ part (routing names w) p to
  parts to = λ i. part_by (named i) to (cands to i)

  pub no_other : Differs (routing names v) (routing names w) p → ⊥
  no_other (inl d) = d (filter_map_alike (part (routing names v) p) (part (routing names w) p) parts (pids (routing names v)))
  no_other (inr d) = d.2 (ap (λ cs. option_map (λ (c : Candidate). c.attrs) (best_of cs)) (cands d.0))

-- where the routes for a prefix stay, and the rules and names, nothing is another
pub same_routes : (names : Registered) (v w : Served) (p : Prefix) → v.rules ≡ w.rules → v.named ≡ w.named → ((f : Pid) → get w.routes (record { from = f; prefix = p }) ≡ get v.routes (record { from = f; prefix = p })) → Differs (routing names v) (routing names w) p → ⊥
same_routes names v w p rules named same = no_other names v w p named (λ to from.
    ap (option_and_then (λ (attrs : Attrs). cond (is_given (routing names v) from to p attrs) (Some (candidate (routing names v) from attrs)) None)) (sym (same from))
    ∙ ap (λ rs. let u : Served = record w { rules = rs } in given (routing names u) to p from) rules)

pub rules_are : {A B : Type 0} (f : A → B) (o : Option A) (q : Option B) (d : B) → option_map f o ≡ q → option_map_or f o d ≡ unwrap_or q d
rules_are f None q d e = ap (λ x. unwrap_or x d) e
rules_are f (Some x) q d e = ap (λ y. unwrap_or y d) e
