-- The routes to choose from are what a row offers.
use Rattle.std.proofs.Common.{◌≡◌, ℕ, suc, zero, ◌+◌, ◌<◌, ◌≤◌, Bool, true, false, cond, eqb, List, [], ◌∷◌, length, Option, Some, None, sym, ap, subst, ◌∙◌, refl, arith}
use Rattle.std.specs.List.{filter_map, cons_option}
use Rattle.std.specs.Option.{option_and_then}
use Rattle.std.proofs.lemmas.Bool.{eqb-true, eqb-false, ne_eqb}
use Rattle.net_types.specs.Exports.{Routing, is_given, route}
use Rattle.net_types.specs.Routes.{Candidate, given, candidate, candidates, numbers}
use Rattle.net_types.specs.declared.prefix.Prefix.{Prefix}
use Rattle.net_types.specs.declared.route.Attrs.{Attrs}
use Rattle.net_types.specs.declared.address.Pid.{Pid}
use Rattle.route_server.specs.Rows.{offered, look, Rising}
use Rattle.route_server.specs.declared.held.Held.{Held}
use Rattle.net_types.proofs.FindLemmas.{filter_map-map}

-- a row of participants below high is no longer than that
pub rising_short : (low high : ℕ) (row : List Held) → low ≤ high → Rising low high row → length row + low ≤ high
rising_short low high [] le r = omega (arith, le)
rising_short low high (h ∷ hs) le r = let k = rising_short (h.from.0 + 1) high hs (let b = r.1 in omega (arith, b)) r.2 in let a = r.0 in omega (arith, k, a)

-- below the first there is none
pub look_below : (n low high : ℕ) (row : List Held) → Rising low high row → n < low → look row n ≡ None
look_below n low high [] r lt = refl
look_below n low high (h ∷ hs) r lt =
    ap (λ b. cond b (Some h.attrs) (look hs n)) (ne_eqb h.from.0 n (λ e. let a = r.0 in absurd (omega (arith, a, e, lt))))
    ∙ look_below n (h.from.0 + 1) high hs r.2 (let a = r.0 in omega (arith, a, lt))

-- what the numbers from low on give of a row
abbrev by_number : (ℕ → Attrs → Option Candidate) → List Held → List ℕ → List Candidate
by_number f row ns = filter_map (λ n. option_and_then (f n) (look row n)) ns

-- where two rows agree from low on
same_from : (f : ℕ → Attrs → Option Candidate) (row other : List Held) (low count : ℕ) → ((n : ℕ) → low ≤ n → look row n ≡ look other n) → by_number f row (numbers low count) ≡ by_number f other (numbers low count)
same_from f row other low zero h = refl
same_from f row other low (suc count) h =
    ap (λ o. cons_option (option_and_then (f low) o) (by_number f row (numbers (low + 1) count))) (h low (omega arith))
    ∙ ap (cons_option (option_and_then (f low) (look other low))) (same_from f row other (low + 1) count (λ n le. h n (omega (arith, le))))

nothing_from : (f : ℕ → Attrs → Option Candidate) (low count : ℕ) → by_number f [] (numbers low count) ≡ []
nothing_from f low zero = refl
nothing_from f low (suc count) = nothing_from f (low + 1) count

by_numbers : (f : ℕ → Attrs → Option Candidate) (count low : ℕ) (row : List Held) → Rising low (low + count) row → by_number f row (numbers low count) ≡ filter_map (λ (h : Held). f h.from.0 h.attrs) row
by_numbers f zero low [] r = refl
by_numbers f zero low (h ∷ hs) r = let a = r.0 in let b = r.1 in absurd (omega (arith, a, b))
by_numbers f (suc count) low [] r = nothing_from f low (suc count)
by_numbers f (suc count) low (h ∷ hs) r = first_step (eqb h.from.0 low) refl (λ row k. by_numbers f count (low + 1) row k)
  where
    up : low + suc count ≡ (low + 1) + count
    up = omega arith

    first_step : (b : Bool) → eqb h.from.0 low ≡ b → ((row : List Held) → Rising (low + 1) ((low + 1) + count) row → by_number f row (numbers (low + 1) count) ≡ filter_map (λ (k : Held). f k.from.0 k.attrs) row) → by_number f (h ∷ hs) (numbers low (suc count)) ≡ filter_map (λ (k : Held). f k.from.0 k.attrs) (h ∷ hs)
    first_step true e later =
        let is : h.from.0 ≡ low = eqb-true h.from.0 low e in
        let rest : Rising (low + 1) ((low + 1) + count) hs = subst (λ m. Rising (m + 1) ((low + 1) + count) hs) is (subst (λ k. Rising (h.from.0 + 1) k hs) up r.2) in
        ap (λ t. cons_option (option_and_then (f low) (cond t (Some h.attrs) (look hs low))) (by_number f (h ∷ hs) (numbers (low + 1) count))) e
        ∙ ap (λ m. cons_option (f m h.attrs) (by_number f (h ∷ hs) (numbers (low + 1) count))) (sym is)
        ∙ ap (cons_option (f h.from.0 h.attrs)) (same_from f (h ∷ hs) hs (low + 1) count (λ n le. ap (λ t. cond t (Some h.attrs) (look hs n)) (ne_eqb h.from.0 n (λ same. absurd (omega (arith, same, is, le)))))
        ∙ later hs rest)
    first_step false e later =
        let apart = eqb-false h.from.0 low e in
        let a = r.0 in
        let less : low + 1 ≤ h.from.0 = omega (arith, a, apart) in
        ap (λ o. cons_option (option_and_then (f low) o) (by_number f (h ∷ hs) (numbers (low + 1) count))) (look_below low (low + 1) ((low + 1) + count) (h ∷ hs) (less, subst (λ k. h.from.0 < k) up r.1, subst (λ k. Rising (h.from.0 + 1) k hs) up r.2) (omega arith))
        ∙ later (h ∷ hs) (less, subst (λ k. h.from.0 < k) up r.1, subst (λ k. Rising (h.from.0 + 1) k hs) up r.2)

pub filter_map_alike : {X Y : Type 0} (f g : X → Option Y) → ((x : X) → f x ≡ g x) → (xs : List X) → filter_map f xs ≡ filter_map g xs
filter_map_alike f g h [] = refl
filter_map_alike f g h (x ∷ xs) = ap (λ o. cons_option o (filter_map f xs)) (h x) ∙ ap (cons_option (g x)) (filter_map_alike f g h xs)

-- The candidates are what the row of a prefix offers.
pub candidates_offered : (r : Routing) (to : Pid) (p : Prefix) (row : List Held) → Rising 0 (length r.participants) row → ((from : Pid) → route r from p ≡ look row from.0) → candidates r to p ≡ offered r to p row
candidates_offered r to p row rising is =
    filter_map-map (given r to p) (λ n. record { 0 = n }) (numbers 0 (length r.participants))
    ∙ filter_map_alike (λ n. given r to p (record { 0 = n })) (λ n. option_and_then (f n) (look row n)) (λ n. ap (option_and_then (f n)) (is (record { 0 = n }))) (numbers 0 (length r.participants))
    ∙ by_numbers f (length r.participants) 0 row (subst (λ k. Rising 0 k row) zero_more rising)
  where
    zero_more : length r.participants ≡ 0 + length r.participants
    zero_more = omega arith

    f : ℕ → Attrs → Option Candidate
    f n attrs = cond (is_given r (record { 0 = n }) to p attrs) (Some (candidate r (record { 0 = n }) attrs)) None
