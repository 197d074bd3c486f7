-- The best route where one participant alone has one.
use Rattle.std.proofs.Common.{◌≡◌, ℕ, zero, suc, ◌+◌, ◌<◌, ◌≤◌, true, cond, ◌&&◌, ◌||◌, not, nat_le, List, [], ◌∷◌, length, ap, ◌∙◌, refl, arith, inl, inr}
use Rattle.std.specs.Prelude.{Option, Some, None, option_to_list, unwrap_or, ◌⊎◌}
use Rattle.std.specs.List.{filter_map, cons_option}
use Rattle.std.specs.Option.{option_and_then}
use Rattle.std.proofs.lemmas.Bool.{cases_eq, eq-eqb, le-leb}
use Rattle.net_types.proofs.FindLemmas.{filter_map-map}
use Rattle.net_types.specs.Exports.{Routing, route, is_given}
use Rattle.net_types.specs.Routes.{Candidate, given, candidates, candidate, numbers, best_of, least_by, least_med, first_of_list}
use Rattle.net_types.specs.declared.address.Pid.{Pid}
use Rattle.net_types.specs.declared.prefix.Prefix.{Prefix}
use Rattle.net_types.specs.declared.route.Attrs.{Attrs}

cons_none : {A : Type 0} (o : Option A) (xs : List A) → o ≡ None → cons_option o xs ≡ xs
cons_none None xs e = refl
cons_none (Some x) xs e = cc

-- where only one number gives something, that is all there is
none_from : {A : Type 0} (f : ℕ → Option A) (low count : ℕ) → ((k : ℕ) → low ≤ k → f k ≡ None) → filter_map f (numbers low count) ≡ []
none_from f low zero h = refl
none_from f low (suc count) h = cons_none (f low) _ (h low (omega arith)) ∙ none_from f (low + 1) count (λ k le. h k (omega arith))

cons_some : {A : Type 0} (o : Option A) → cons_option o [] ≡ option_to_list o
cons_some None = refl
cons_some (Some x) = refl

only_here : {A : Type 0} (f : ℕ → Option A) (low count at : ℕ) → low ≤ at → ((k : ℕ) → (k ≡ at → ⊥) → f k ≡ None) → ((low ≡ at → ⊥) → filter_map f (numbers (low + 1) count) ≡ option_to_list (f at)) → ((low ≡ at) ⊎ (low ≡ at → ⊥)) → filter_map f (numbers low (suc count)) ≡ option_to_list (f at)
only_here f low count at le h later (inl same) =
    ap (cons_option (f low)) (none_from f (low + 1) count (λ k above. h k (λ e. omega arith))) ∙ cons_some (f low) ∙ ap (λ k. option_to_list (f k)) same
only_here f low count at le h later (inr other) =
    cons_none (f low) (filter_map f (numbers (low + 1) count)) (h low other) ∙ later other

only_from : {A : Type 0} (f : ℕ → Option A) (low count at : ℕ) → low ≤ at → at < low + count → ((k : ℕ) → (k ≡ at → ⊥) → f k ≡ None) → filter_map f (numbers low count) ≡ option_to_list (f at)
only_from f low zero at le lt h = absurd (omega arith)
only_from f low (suc count) at le lt h =
    only_here f low count at le h (λ other. only_from f (low + 1) count at (omega arith) (omega arith) h) (cases_eq low at)

-- the candidates where only one participant has a route that is given
pub one_candidate : (r : Routing) (to : Pid) (p : Prefix) (from : Pid) → from.0 < length r.participants → ((k : ℕ) → (k ≡ from.0 → ⊥) → route r (record { 0 = k }) p ≡ None) → candidates r to p ≡ option_to_list (given r to p from)
one_candidate r to p from within others =
    filter_map-map (given r to p) (λ n. let who : Pid = record { 0 = n } in who) (numbers 0 (length r.participants))
    ∙ only_from (λ n. given r to p (record { 0 = n })) 0 (length r.participants) from.0 (omega arith) (omega arith)
    (λ k other. ap (option_and_then (λ (attrs : Attrs). cond (is_given r (record { 0 = k }) to p attrs) (Some (candidate r (record { 0 = k }) attrs)) None)) (others k other))

least_one : (f : Candidate → ℕ) (c : Candidate) → least_by f (c ∷ []) ≡ c ∷ []
least_one f c = ap (λ b. cond (b && true) (c ∷ []) []) (le-leb (f c) (f c) (omega arith))

least_med_one : (c : Candidate) → least_med (c ∷ []) ≡ c ∷ []
least_med_one c =
    let m : ℕ = unwrap_or c.attrs.med 0 in
    ap (λ b. cond ((not b || nat_le m m) && true) (c ∷ []) []) (eq-eqb c.asn c.asn refl) ∙ ap (λ b. cond (b && true) (c ∷ []) []) (le-leb m m (omega arith))

-- a route alone is the best
pub best_one : (c : Candidate) → best_of (c ∷ []) ≡ Some c
best_one c =
    ap (λ cs. first_of_list (least_by (λ (d : Candidate). d.peer.0) (least_by (λ d. d.id.0) (least_med (least_by (λ d. d.attrs.origin) cs))))) (least_one (λ d. d.hops) c)
    ∙ ap (λ cs. first_of_list (least_by (λ (d : Candidate). d.peer.0) (least_by (λ d. d.id.0) (least_med cs)))) (least_one (λ d. d.attrs.origin) c)
    ∙ ap (λ cs. first_of_list (least_by (λ (d : Candidate). d.peer.0) (least_by (λ d. d.id.0) cs))) (least_med_one c)
    ∙ ap (λ cs. first_of_list (least_by (λ (d : Candidate). d.peer.0) cs)) (least_one (λ d. d.id.0) c)
    ∙ ap first_of_list (least_one (λ d. d.peer.0) c)
