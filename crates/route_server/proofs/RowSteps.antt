-- One route more of a row is looked at.
use Rattle.std.proofs.Common.{◌≡◌, ℕ, ◌+◌, ◌<◌, ◌≤◌, Bool, true, false, cond, List, [], ◌∷◌, ◌++◌, map, take, length, get_or, set, Option, Some, None, sym, ap, subst, ◌∙◌, refl, arith, append-nil, length-set, suc, zero}
use Rattle.std.specs.Prelude.{slice_get}
use Rattle.std.specs.List.{cons_option}
use Rattle.std.specs.Option.{option_and_then, option_map}
use Rattle.std.proofs.lemmas.List.{take_more, take_more_set, get_or-take, length-take, map_push}
use Rattle.std.proofs.lemmas.List.Elements.{filter_map-append}
use Rattle.std.proofs.lemmas.Option.{slice_get-map, slice_get-get_or}
use Rattle.net_types.specs.Exports.{Routing, is_given}
use Rattle.net_types.specs.Routes as routes
use Rattle.net_types.specs.Routes.{best_of, candidate}
use Rattle.decision.specs.Seen as see
use Rattle.net_types.specs.declared.prefix.Prefix.{Prefix}
use Rattle.decision.specs.declared.candidate.Candidate.{Candidate}
use Rattle.net_types.specs.declared.address.Pid.{Pid}
use Rattle.route_server.specs.Rows.{held_by, held_given, offered, held_at}
use Rattle.route_server.specs.declared.held.Held.{Held}
use Rattle.net_types.proofs.FindLemmas.{slice_get_some}

pub offered_more : (r : Routing) (to : Pid) (p : Prefix) (row : List Held) (i : ℕ) (h : Held) (b : Bool) → i < length row → h ≡ get_or row i h → b ≡ is_given r h.from to p h.attrs
    → offered r to p (take (i + 1) row) ≡ offered r to p (take i row) ++ cons_option (cond b (Some (held_by r h)) None) []
offered_more r to p row i h b within is given =
    ap (offered r to p) (take_more row i h within ∙ ap (λ x. take i row ++ x ∷ []) (sym is))
    ∙ filter_map-append (held_given r to p) (take i row) (h ∷ [])
    ∙ ap (λ t. offered r to p (take i row) ++ cons_option (cond t (Some (held_by r h)) None) []) (sym given)

-- the routes seen so far, with their places
pub record IsSeen (r : Routing) (to : Pid) (p : Prefix) (row : List Held) (place count : ℕ) (seen : List Candidate) (places : List ℕ) : Type 0 where
  pub looks : take count seen ≡ map see.seen (offered r to p (take place row))
  pub where_at : map (held_at r row) (take count places) ≡ map (λ g. Some g) (offered r to p (take place row))
  pub fewer : count ≤ place
  pub long : length seen ≡ 256
  pub wide : length places ≡ 256

pub seen_more : (r : Routing) (to : Pid) (p : Prefix) (row : List Held) (place count : ℕ) (seen : List Candidate) (places : List ℕ) (h : Held) (c : Candidate) → IsSeen r to p row place count seen places → place < length row → length row ≤ 256 → h ≡ get_or row place h → true ≡ is_given r h.from to p h.attrs → c ≡ see.seen (candidate r h.from h.attrs)
    → IsSeen r to p row (place + 1) (count + 1) (set seen count c) (set places count place)
seen_more r to p row place count seen places h c s within short is given looks =
    let more = offered_more r to p row place h true within is given in
    let old = offered r to p (take place row) in
    let fits : count < 256 = let k = s.fewer in omega (arith, k, within, short) in
    record {
      looks = take_more_set seen count c (subst (λ n. count < n) (sym s.long) fits)
          ∙ ap (λ xs. xs ++ c ∷ []) s.looks ∙ ap (λ x. map see.seen old ++ x ∷ []) looks
          ∙ sym (ap (map see.seen) more ∙ map_push see.seen old (held_by r h));
      where_at = ap (map (held_at r row)) (take_more_set places count place (subst (λ n. count < n) (sym s.wide) fits))
          ∙ map_push (held_at r row) (take count places) place
          ∙ ap (λ xs. xs ++ held_at r row place ∷ []) s.where_at
          ∙ ap (λ o. map (λ g. Some g) old ++ option_map (held_by r) o ∷ []) (slice_get-get_or row place h within ∙ ap (λ x. Some x) (sym is))
          ∙ sym (ap (map (λ g. Some g)) more ∙ map_push (λ g. Some g) old (held_by r h));
      fewer = let k = s.fewer in omega (arith, k);
      long = length-set seen count c ∙ s.long;
      wide = length-set places count place ∙ s.wide;
    }

pub seen_same : (r : Routing) (to : Pid) (p : Prefix) (row : List Held) (place count : ℕ) (seen : List Candidate) (places : List ℕ) (h : Held) → IsSeen r to p row place count seen places → place < length row → h ≡ get_or row place h → false ≡ is_given r h.from to p h.attrs → IsSeen r to p row (place + 1) count seen places
seen_same r to p row place count seen places h s within is given =
    let more = offered_more r to p row place h false within is given ∙ append-nil (offered r to p (take place row)) in
    record {
      looks = s.looks ∙ ap (map see.seen) (sym more);
      where_at = s.where_at ∙ ap (map (λ g. Some g)) (sym more);
      fewer = let k = s.fewer in omega (arith, k);
      long = s.long;
      wide = s.wide;
    }

length_mapped : {X Y : Type 0} (f : X → Y) (xs : List X) → length (map f xs) ≡ length xs
length_mapped f [] = refl
length_mapped f (x ∷ xs) = ap suc (length_mapped f xs)

some_some : {X : Type 0} (o : Option X) (q : Option X) → Some q ≡ option_map (λ x. Some x) o → q ≡ o
some_some None q e = cc
some_some (Some x) q e = cc

-- the chosen place
pub seen_best : (r : Routing) (to : Pid) (p : Prefix) (row : List Held) (place count : ℕ) (seen : List Candidate) (places : List ℕ) (i : ℕ) → IsSeen r to p row place count seen places → take place row ≡ row → ((cs : List routes.Candidate) → map see.seen cs ≡ take count seen → best_of cs ≡ option_and_then (slice_get cs) (Some i)) → i < length (take count seen) → held_at r row (get_or places i 0) ≡ best_of (offered r to p row)
seen_best r to p row place count seen places i s all best within =
    let low : i < count = let m = length-take count seen in omega (arith, within, m) in
    let gs = offered r to p row in
    let looks : take count seen ≡ map see.seen gs = s.looks ∙ ap (λ xs. map see.seen (offered r to p xs)) all in
    let where_at : map (held_at r row) (take count places) ≡ map (λ g. Some g) gs = s.where_at ∙ ap (λ xs. map (λ g. Some g) (offered r to p xs)) all in
    let long : length (take count places) ≡ length (take count seen) = sym (length_mapped (held_at r row) (take count places)) ∙ ap length where_at ∙ length_mapped (λ g. Some g) gs ∙ sym (length_mapped see.seen gs) ∙ ap length (sym looks) in
    some_some (slice_get gs i) (held_at r row (get_or places i 0))
    (ap (λ n. Some (held_at r row n)) (sym (get_or-take count places i 0 low))
    ∙ sym (ap (option_map (held_at r row)) (slice_get-get_or (take count places) i 0 (subst (λ n. i < n) (sym long) within)))
    ∙ sym (slice_get-map (held_at r row) (take count places) i) ∙ ap (λ ys. slice_get ys i) where_at ∙ slice_get-map (λ g. Some g) gs i)
    ∙ sym (best gs (sym looks))

held_within : (r : Routing) (row : List Held) (n : ℕ) (g : routes.Candidate) → held_at r row n ≡ Some g → n < length row
held_within r [] n g e = cc
held_within r (h ∷ hs) zero g e = omega arith
held_within r (h ∷ hs) (suc n) g e = let k = held_within r hs n g e in omega (arith, k)

pub seen_within : (r : Routing) (to : Pid) (p : Prefix) (row : List Held) (place count : ℕ) (seen : List Candidate) (places : List ℕ) (i : ℕ) → IsSeen r to p row place count seen places → take place row ≡ row → ((cs : List routes.Candidate) → map see.seen cs ≡ take count seen → best_of cs ≡ option_and_then (slice_get cs) (Some i)) → i < length (take count seen) → get_or places i 0 < length row
seen_within r to p row place count seen places i s all best within =
    let gs = offered r to p row in
    let looks : take count seen ≡ map see.seen gs = s.looks ∙ ap (λ xs. map see.seen (offered r to p xs)) all in
    let there = slice_get_some gs i (subst (λ n. i < n) (ap length looks ∙ length_mapped see.seen gs) within) in
    held_within r row (get_or places i 0) there.0
    (seen_best r to p row place count seen places i s all best within
    ∙ best gs (sym looks) ∙ there.1)

pub seen_none : (r : Routing) (to : Pid) (p : Prefix) (row : List Held) (place count : ℕ) (seen : List Candidate) (places : List ℕ) → IsSeen r to p row place count seen places → take place row ≡ row → ((cs : List routes.Candidate) → map see.seen cs ≡ take count seen → best_of cs ≡ option_and_then (slice_get cs) None) → None ≡ best_of (offered r to p row)
seen_none r to p row place count seen places s all best =
    let gs = offered r to p row in
    let looks : take count seen ≡ map see.seen gs = s.looks ∙ ap (λ xs. map see.seen (offered r to p xs)) all in
    sym (best gs (sym looks))
