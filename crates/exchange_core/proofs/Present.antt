-- What is kept as present for the participants: for each of a state its own, and nothing before there are routes.
use Rattle.std.proofs.Common.{◌≡◌, ℕ, ◌+◌, ◌<◌, List, [], ◌∷◌, ◌++◌, length, map, replicate, sym, ap, ◌∙◌, refl, arith, inl, inr}
use Rattle.std.specs.Prelude.{unwrap_or}
use Rattle.std.specs.FinMap.{empty, keys}
use Rattle.std.proofs.lemmas.List.{replicate-append-replicate}
use Rattle.events.specs.State.{State, present, present_entry}
use Rattle.fast_path.specs.Offers.{Present, all_present, present_to}
use Rattle.net_types.proofs.SetLemmas.{map-map}
use Rattle.net_types.proofs.ValueLemmas.{no_entries}
use Rattle.net_types.specs.Keys.{RouteKey, prefix_cmp, route_cmp}
use Rattle.net_types.specs.Maps.{tabulate}
use Rattle.net_types.specs.Routes.{announced, numbers, pids}
use Rattle.net_types.specs.Sets.{Member}
use Rattle.net_types.specs.declared.address.Pid.{Pid}
use Rattle.net_types.specs.declared.prefix.Prefix.{Prefix}
use Rattle.net_types.specs.declared.route.Attrs.{Attrs}
use Rattle.net_types.specs.declared.route.Participant.{Participant}
use Rattle.exchange_laws.proofs.Counted.{how_many}
use Rattle.fast_path.proofs.OfferedPresent.{number_at}

abbrev pid_at : ℕ → Pid
pid_at n = record { 0 = n }

-- ---- places

-- what is kept as present for a declared participant is what is present for it
pub kept_present : (s : State) (all : Present) (who : Pid) → all ≡ all_present s → who.0 < length s.routing.participants → present_to all who ≡ present s who
kept_present s all who kept declared =
    ap (λ ps. present_to ps who) (kept ∙ map-map (present s) pid_at (λ n. present s (pid_at n)) (λ n. refl) (numbers 0 (length s.routing.participants)))
    ∙ ap (λ o. unwrap_or o empty) (number_at (λ n. present s (pid_at n)) 0 (length s.routing.participants) who.0 declared)
    ∙ ap (λ n. present s (pid_at n)) (let same : 0 + who.0 ≡ who.0 = omega arith in same)

-- ---- no routes

no_announced : (s : State) → s.routing.routes ≡ empty → announced s.routing ≡ []
no_announced s none =
    ap (λ m. map (λ (k : RouteKey). k.prefix) (keys m)) none
    ∙ ap (λ (es : List (RouteKey × Attrs)). map (λ (k : RouteKey). k.prefix) (map (λ (e : RouteKey × Attrs). e.0) es)) (no_entries RouteKey Attrs route_cmp)

nothing_present : (s : State) (who : Pid) → s.routing.routes ≡ empty → present s who ≡ empty
nothing_present s who none = ap (λ (ps : List Prefix). tabulate prefix_cmp ps (present_entry s who)) (no_announced s none)

all_alike : {A B : Type 0} (f : A → B) (y : B) → ((x : A) → f x ≡ y) → (xs : List A) → map f xs ≡ replicate (length xs) y
all_alike f y same [] = refl
all_alike f y same (x ∷ xs) = λ i. same x i ∷ all_alike f y same xs i

-- where there are no routes, nothing is present for anybody
pub all_nothing : (s : State) → s.routing.routes ≡ empty → all_present s ≡ replicate (length s.routing.participants) empty
all_nothing s none =
    all_alike (present s) empty (λ who. nothing_present s who none) (pids s.routing) ∙ ap (λ n. replicate n empty) (how_many pid_at 0 (length s.routing.participants))

-- where nobody is declared, nothing is kept
pub nobody_there : (s : State) → s.routing.routes ≡ empty → s.routing.participants ≡ [] → [] ≡ all_present s
nobody_there s none nobody = ap (λ (ms : List Participant). replicate (length ms) empty) (sym nobody) ∙ sym (all_nothing s none)

-- ---- lists of one thing

same_all : {A : Type 0} (y : A) (xs : List A) → ((x : A) → Member x xs → x ≡ y) → replicate (length xs) y ≡ xs
same_all y [] same = refl
same_all y (x ∷ xs) same = let here : y ≡ x = sym (same x (inl refl)) in λ i. here i ∷ same_all y xs (λ z m. same z (inr m)) i

-- a list of one thing, and the thing once more
pub same_more : {A : Type 0} (y : A) (xs : List A) (n : ℕ) → ((x : A) → Member x xs → x ≡ y) → length xs ≡ n → replicate (n + 1) y ≡ xs ++ y ∷ []
same_more y xs n same count =
    sym (replicate-append-replicate n 1 y) ∙ ap (λ k. replicate k y ++ y ∷ []) (sym count) ∙ ap (λ zs. zs ++ y ∷ []) (same_all y xs same)
