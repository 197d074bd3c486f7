-- The best of any list is at the best place among what the choice sees of it.
use Rattle.std.proofs.Common.{◌≡◌, ℕ, ◌+◌, Bool, true, false, cond, ◌&&◌, List, [], ◌∷◌, ◌++◌, map, length, Option, Some, None, sym, ap, subst, ◌∙◌, refl, append_assoc, length-append}
use Rattle.std.specs.Prelude.{slice_get}
use Rattle.std.specs.Option.{option_and_then, option_map}
use Rattle.decision.specs.Passes.{best_by, best_place, numbered}
use Rattle.decision.specs.declared.candidate.Candidate.{Candidate}
use Rattle.decision.specs.Passes.{would_lead, lead_of, is_kept}
use Rattle.decision.proofs.WinnerLemmas.{pick, picked_best, numbered-map}
use Rattle.std.specs.Prelude.{unwrap_or}
use Rattle.std.specs.List.{list_any, list_all}
use Rattle.std.proofs.Common.{arith, not, ◌||◌, eqb, ltb, leb}
use Rattle.std.proofs.lemmas.Bool.Decides.{nat_tests}
use Rattle.net_types.specs.Routes as routes
use Rattle.net_types.specs.Routes.{first_of_list}
use Rattle.decision.specs.Passes.{beats, unbeaten, least_by}
use Rattle.decision.specs.Seen.{seen}
use Rattle.std.proofs.lemmas.List.Elements.{filter_agree}

-- a choice from the list and one from the numbered list
record Tied {X : Type 0} (seen : X → Candidate) (all : List X) (w : Option X) (v : Option (ℕ × Candidate)) : Type 0 where
  same : w ≡ option_and_then (λ (p : ℕ × Candidate). slice_get all p.0) v
  alike : option_map seen w ≡ option_map (λ (p : ℕ × Candidate). p.1) v

slice_get-middle : {X : Type 0} (front : List X) (x : X) (xs : List X) → slice_get (front ++ x ∷ xs) (length front) ≡ Some x
slice_get-middle [] x xs = refl
slice_get-middle (y ∷ front) x xs = slice_get-middle front x xs

tied_step : {X : Type 0} (seen : X → Candidate) (all : List X) (w : Option X) (v : Option (ℕ × Candidate)) (n : ℕ) (x : X) (b : Bool) → slice_get all n ≡ Some x → Tied seen all w v → Tied seen all (cond b (Some x) w) (cond b (Some (n, seen x)) v)
tied_step seen all w v n x true at t = record { same = sym at; alike = refl }
tied_step seen all w v n x false at t = t

pick_tied : {X : Type 0} (seen : X → Candidate) (keep : Candidate → Bool) (all : List X) (xs front : List X) → all ≡ front ++ xs → (w : Option X) (v : Option (ℕ × Candidate)) → Tied seen all w v
    → Tied seen all (pick seen (λ x. keep (seen x)) w xs) (pick (λ (p : ℕ × Candidate). p.1) (λ p. keep p.1) v (numbered (length front) (map seen xs)))
pick_tied seen keep all [] front is w v t = t
pick_tied {X} seen keep all (x ∷ xs) front is w v t =
    let n : ℕ = length front in
    let b : Bool = keep (seen x) && would_lead (seen x) (option_map seen w) in
    let longer : length (front ++ x ∷ []) ≡ n + 1 = length-append front (x ∷ []) in
    let k = pick_tied seen keep all xs (front ++ x ∷ []) (is ∙ sym (append_assoc front (x ∷ []) xs)) (cond b (Some x) w) (cond b (Some (n, seen x)) v)
    (tied_step seen all w v n x b (ap (λ ys. slice_get ys n) is ∙ slice_get-middle front x xs) t) in
    subst (λ o. Tied seen all (pick seen (λ y. keep (seen y)) (cond b (Some x) w) xs) (pick (λ (p : ℕ × Candidate). p.1) (λ p. keep p.1) (cond (keep (seen x) && would_lead (seen x) o) (Some (n, seen x)) v) (numbered (n + 1) (map seen xs)))) t.alike
    (subst (λ m. Tied seen all (pick seen (λ y. keep (seen y)) (cond b (Some x) w) xs) (pick (λ (p : ℕ × Candidate). p.1) (λ p. keep p.1) (cond b (Some (n, seen x)) v) (numbered m (map seen xs)))) longer k)

at_place : {X : Type 0} (xs : List X) (o : Option (ℕ × Candidate)) → option_and_then (λ (p : ℕ × Candidate). slice_get xs p.0) o ≡ option_and_then (slice_get xs) (option_map (λ p. p.0) o)
at_place xs None = refl
at_place xs (Some p) = refl

pub best_at_place : {X : Type 0} (seen : X → Candidate) (xs : List X) → best_by seen xs ≡ option_and_then (slice_get xs) (best_place (map seen xs))
best_at_place seen [] = refl
best_at_place seen (x ∷ xs) =
    let c : Candidate = seen x in
    let cs : List Candidate = map seen xs in
    let l : Candidate = lead_of c (c ∷ cs) in
    let t = pick_tied seen (is_kept l (c ∷ cs)) (x ∷ xs) (x ∷ xs) [] refl None None (record { same = refl; alike = refl }) in
    sym (picked_best seen l c cs (x ∷ xs) refl refl)
    ∙ t.same
    ∙ ap (option_and_then (λ (p : ℕ × Candidate). slice_get (x ∷ xs) p.0)) (picked_best (λ (p : ℕ × Candidate). p.1) l c cs (numbered 0 (c ∷ cs)) (numbered-map 0 (c ∷ cs)) refl)
    ∙ at_place (x ∷ xs) (best_by (λ (p : ℕ × Candidate). p.1) (numbered 0 (c ∷ cs)))

-- a route is no worse than one of the same AS where that one doesn't beat it
de_morgan : (a b : Bool) → not (a || b) ≡ (not a && not b)
de_morgan true b = refl
de_morgan false b = refl

no_worse : (m n a b : ℕ) → not (eqb n m && ltb b a) ≡ (not (eqb m n) || leb a b)
no_worse m n a b = grind (arith, nat_tests)

unbeaten_one : (c : routes.Candidate) (cs : List routes.Candidate) → not (list_any (λ d. beats (seen d) (seen c)) cs) ≡ list_all (λ (d : routes.Candidate). not (eqb c.asn d.asn) || leb (unwrap_or c.attrs.med 0) (unwrap_or d.attrs.med 0)) cs
unbeaten_one c [] = refl
unbeaten_one c (d ∷ ds) =
    de_morgan (beats (seen d) (seen c)) (list_any (λ d. beats (seen d) (seen c)) ds)
    ∙ ap (λ b. b && not (list_any (λ d. beats (seen d) (seen c)) ds)) (no_worse c.asn d.asn (unwrap_or c.attrs.med 0) (unwrap_or d.attrs.med 0))
    ∙ ap (λ b. (not (eqb c.asn d.asn) || leb (unwrap_or c.attrs.med 0) (unwrap_or d.attrs.med 0)) && b) (unbeaten_one c ds)

unbeaten_is : (cs : List routes.Candidate) → unbeaten seen cs ≡ routes.least_med cs
unbeaten_is cs = filter_agree _ _ (λ c. unbeaten_one c cs) cs

-- the five filters of routes to choose from are those of what the choice sees of them
pub best_is : (cs : List routes.Candidate) → routes.best_of cs ≡ best_by seen cs
best_is cs = ap (λ xs. first_of_list (least_by (λ (c : routes.Candidate). c.peer.0) (least_by (λ c. c.id.0) xs))) (sym (unbeaten_is (routes.least_by (λ c. c.attrs.origin) (routes.least_by (λ c. c.hops) cs))))
