-- The best of the routes at some places of a row, and one participant more.
use Rattle.std.proofs.Common.{◌≡◌, ℕ, ◌+◌, ◌<◌, true, false, List, [], ◌∷◌, ◌++◌, map, take, length, get_or, Option, Some, None, sym, ap, ◌∙◌, refl, arith, append-nil, suc, zero}
use Rattle.std.specs.Prelude.{slice_get, option_to_list}
use Rattle.std.specs.List.{cons_option, filter_map}
use Rattle.std.specs.Option.{option_and_then, option_map}
use Rattle.std.proofs.lemmas.List.{take_more, map_push}
use Rattle.std.proofs.lemmas.List.Elements.{filter_map-append}
use Rattle.std.proofs.lemmas.Option.{slice_get-map, slice_get-get_or}
use Rattle.net_types.specs.Exports.{Routing, is_given}
use Rattle.net_types.specs.Routes.{Candidate, best_of, pids, numbers}
use Rattle.net_types.specs.declared.prefix.Prefix.{Prefix}
use Rattle.net_types.specs.declared.address.Pid.{Pid}
use Rattle.decision.specs.Seen as see
use Rattle.decision.specs.declared.candidate.Candidate as sight
use Rattle.route_server.specs.Choices.{seen_by, AreAt, IsBestAt, AreChosen}
use Rattle.route_server.specs.Rows.{held_by, offered, held_at}
use Rattle.route_server.specs.declared.held.Held.{Held}
use Rattle.route_server.proofs.RowSteps.{offered_more}

-- one route more that is given, and one that isn't
pub at_more : (r : Routing) (to : Pid) (p : Prefix) (row : List Held) (place : ℕ) (given now : List ℕ) (h : Held) → place < length row → h ≡ get_or row place h → true ≡ is_given r h.from to p h.attrs → now ≡ given ++ place ∷ []
    → AreAt r row given (offered r to p (take place row)) → AreAt r row now (offered r to p (take (place + 1) row))
at_more r to p row place given now h within is told so old =
    let gs = offered r to p (take place row) in
    ap (map (held_at r row)) so ∙ map_push (held_at r row) given place
    ∙ ap (λ xs. xs ++ held_at r row place ∷ []) old
    ∙ ap (λ o. map (λ g. Some g) gs ++ option_map (held_by r) o ∷ []) (slice_get-get_or row place h within ∙ ap (λ x. Some x) (sym is))
    ∙ sym (ap (map (λ g. Some g)) (offered_more r to p row place h true within is told) ∙ map_push (λ g. Some g) gs (held_by r h))

pub at_same : (r : Routing) (to : Pid) (p : Prefix) (row : List Held) (place : ℕ) (given now : List ℕ) (h : Held) → place < length row → h ≡ get_or row place h → false ≡ is_given r h.from to p h.attrs → now ≡ given
    → AreAt r row given (offered r to p (take place row)) → AreAt r row now (offered r to p (take (place + 1) row))
at_same r to p row place given now h within is told so old =
    ap (map (held_at r row)) so ∙ old
    ∙ ap (map (λ g. Some g)) (sym (offered_more r to p row place h false within is told ∙ append-nil (offered r to p (take place row))))

-- one place more is looked at
pub look_more : (seen : List sight.Candidate) (given : List ℕ) (i d : ℕ) (o : Option sight.Candidate) (looks now : List sight.Candidate) → i < length given → o ≡ slice_get seen (get_or given i d) → now ≡ looks ++ option_to_list o
    → looks ≡ filter_map (slice_get seen) (take i given) → now ≡ filter_map (slice_get seen) (take (i + 1) given)
look_more seen given i d o looks now within at so old =
    so ∙ (λ j. old j ++ option_to_list (at j)) ∙ ap (λ xs. filter_map (slice_get seen) (take i given) ++ xs) (as_list (slice_get seen (get_or given i d)))
    ∙ sym (filter_map-append (slice_get seen) (take i given) (get_or given i d ∷ []))
    ∙ ap (filter_map (slice_get seen)) (sym (take_more given i d within))
  where
    as_list : (o : Option sight.Candidate) → option_to_list o ≡ cons_option o []
    as_list None = refl
    as_list (Some c) = refl

-- what is seen at the places of routes is what the choice sees of these
pub looks_are : (r : Routing) (row : List Held) (places : List ℕ) (cs : List Candidate) → AreAt r row places cs → filter_map (slice_get (seen_by r row)) places ≡ map see.seen cs
looks_are r row [] [] e = refl
looks_are r row [] (c ∷ cs) e = cc
looks_are r row (i ∷ is) [] e = cc
looks_are r row (i ∷ is) (c ∷ cs) e =
    let first : held_at r row i ≡ Some c = cc in
    let rest : map (held_at r row) is ≡ map (λ c. Some c) cs = cc in
    ap (λ o. cons_option o (filter_map (slice_get (seen_by r row)) is)) (slice_get-map (λ h. see.seen (held_by r h)) row i ∙ sight_of (slice_get row i) ∙ ap (option_map see.seen) first)
    ∙ ap (λ xs. see.seen c ∷ xs) (looks_are r row is cs rest)
  where
    sight_of : (o : Option Held) → option_map (λ h. see.seen (held_by r h)) o ≡ option_map see.seen (option_map (held_by r) o)
    sight_of None = refl
    sight_of (Some h) = refl

flat : {A B : Type 0} (f : A → Option B) (o : Option A) → option_and_then (λ x. x) (option_map f o) ≡ option_and_then f o
flat f None = refl
flat f (Some x) = refl

flat_some : {B : Type 0} (o : Option B) → option_and_then (λ x. x) (option_map (λ b. Some b) o) ≡ o
flat_some None = refl
flat_some (Some x) = refl

-- the route at one of the places
route_at : (r : Routing) (row : List Held) (places : List ℕ) (cs : List Candidate) (i : ℕ) → AreAt r row places cs → option_and_then (held_at r row) (slice_get places i) ≡ slice_get cs i
route_at r row places cs i at =
    sym (flat (held_at r row) (slice_get places i)) ∙ ap (option_and_then (λ x. x)) (sym (slice_get-map (held_at r row) places i) ∙ ap (λ xs. slice_get xs i) at ∙ slice_get-map (λ c. Some c) cs i)
    ∙ flat_some (slice_get cs i)

-- the choice among what is seen is the choice among the routes
pub best_is : (r : Routing) (row : List Held) (seen looks : List sight.Candidate) (places : List ℕ) (o : Option ℕ) (choice : Option ℕ) → seen ≡ seen_by r row → looks ≡ filter_map (slice_get seen) places
    → ((cs : List Candidate) → map see.seen cs ≡ looks → best_of cs ≡ option_and_then (slice_get cs) o) → choice ≡ option_and_then (slice_get places) o → IsBestAt r row places choice
best_is r row seen looks places o choice all is best at = λ cs are.
    ap (option_and_then (held_at r row)) at ∙ either cs are o
    ∙ sym (best cs (sym (is ∙ ap (λ xs. filter_map (slice_get xs) places) all ∙ looks_are r row places cs are)))
  where
    either : (cs : List Candidate) → AreAt r row places cs → (o : Option ℕ) → option_and_then (held_at r row) (option_and_then (slice_get places) o) ≡ option_and_then (slice_get cs) o
    either cs are None = refl
    either cs are (Some i) = route_at r row places cs i are

-- of no places there is no best
pub best_nowhere : (r : Routing) (row : List Held) → IsBestAt r row [] None
best_nowhere r row [] e = refl
best_nowhere r row (c ∷ cs) e = cc

number_at : (low count n : ℕ) → n < count → slice_get (numbers low count) n ≡ Some (low + n)
number_at low zero n lt = absurd (omega (arith, lt))
number_at low (suc count) zero lt = ap (λ m. Some m) (omega arith)
number_at low (suc count) (suc n) lt = number_at (low + 1) count n (omega (arith, lt)) ∙ ap (λ m. Some m) (omega arith)

from_some : {A B : Type 0} (f : A → Option B) (o : Option (Option A)) (y : Option B) → option_map (option_and_then f) o ≡ Some y → option_and_then f (option_and_then (λ x. x) o) ≡ y
from_some f None y e = cc
from_some f (Some q) y e = cc

-- a participant's choice among those of all
pub chosen_at : (r : Routing) (p : Prefix) (row : List Held) (places : List (Option ℕ)) (n : ℕ) → AreChosen r p row places → n < length r.participants → option_and_then (held_at r row) (option_and_then (λ o. o) (slice_get places n)) ≡ best_of (offered r (record { 0 = n }) p row)
chosen_at r p row places n are lt =
    from_some (held_at r row) (slice_get places n) (best_of (offered r (record { 0 = n }) p row))
    (sym (slice_get-map (option_and_then (held_at r row)) places n) ∙ ap (λ xs. slice_get xs n) are
    ∙ slice_get-map (λ to. best_of (offered r to p row)) (pids r) n
    ∙ ap (option_map (λ to. best_of (offered r to p row))) (slice_get-map (λ m. record { 0 = m }) (numbers 0 (length r.participants)) n ∙ ap (option_map (λ m. record { 0 = m })) (number_at 0 (length r.participants) n lt ∙ ap (λ m. Some m) low_end)))
  where
    low_end : 0 + n ≡ n
    low_end = omega arith
