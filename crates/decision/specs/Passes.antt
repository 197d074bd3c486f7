-- What the passes over the routes compute: the five filters of any list of which the choice sees candidates, and the
-- steps by which the passes come to the same.
use Rattle.std.specs.Prelude.{ℕ, ◌+◌, Bool, true, ◌&&◌, ◌||◌, not, nat_eq, nat_le, nat_lt, List, [], ◌∷◌, filter, Option, Some, None, unwrap_or, if◌then◌else◌}
use Rattle.std.specs.List.{list_any, list_all}
use Rattle.std.specs.Option.{option_map}
use Rattle.net_types.specs.Routes.{first_of_list}
use Rattle.decision.specs.declared.candidate.Candidate.{Candidate}

-- those whose number is the least
abbrev pub least_by : {X : Type 0} → (X → ℕ) → List X → List X
least_by f xs = filter (λ x. list_all (λ y. nat_le (f x) (f y)) xs) xs

-- the discriminator, 0 where there is none
abbrev pub med_of : Candidate → ℕ
med_of c = unwrap_or c.med 0

-- the first is of the same AS and has a lower discriminator
abbrev pub beats : Candidate → Candidate → Bool
beats d c = nat_eq d.asn c.asn && nat_lt (med_of d) (med_of c)

-- those that no other one beats
abbrev pub unbeaten : {X : Type 0} → (X → Candidate) → List X → List X
unbeaten seen xs = filter (λ x. not (list_any (λ y. beats (seen y) (seen x)) xs)) xs

-- the one that is left by five filters, each over what the one before left
abbrev pub best_by : {X : Type 0} → (X → Candidate) → List X → Option X
best_by seen xs = first_of_list (least_by (λ x. (seen x).peer.0) (least_by (λ x. (seen x).id.0) (unbeaten seen (least_by (λ x. (seen x).origin) (least_by (λ x. (seen x).hops) xs)))))

-- with their places, from i on
abbrev pub numbered : {X : Type 0} → ℕ → List X → List (ℕ × X)
numbered i [] = []
numbered i (x ∷ xs) = (i, x) ∷ numbered (i + 1) xs

-- the place of the best
abbrev pub best_place : List Candidate → Option ℕ
best_place cs = option_map (λ (p : ℕ × Candidate). p.0) (best_by (λ p. p.1) (numbered 0 cs))

-- fewer hops, or as many and a lower ORIGIN
abbrev pub is_ahead : Candidate → Candidate → Bool
is_ahead a b = nat_lt a.hops b.hops || (nat_eq a.hops b.hops && nat_lt a.origin b.origin)

-- as many hops, and the same ORIGIN
abbrev pub is_even : Candidate → Candidate → Bool
is_even a b = nat_eq a.hops b.hops && nat_eq a.origin b.origin

-- a lower identifier, or the same and a lower peer address
abbrev pub precedes : Candidate → Candidate → Bool
precedes a b = nat_lt a.id.0 b.id.0 || (nat_eq a.id.0 b.id.0 && nat_lt a.peer.0 b.peer.0)

-- the first of those that are ahead of all others
abbrev pub lead_of : Candidate → List Candidate → Candidate
lead_of w [] = w
lead_of w (c ∷ cs) = lead_of (if is_ahead c w then c else w) cs

-- nothing leads yet, or this precedes what does
abbrev pub would_lead : Candidate → Option Candidate → Bool
would_lead c None = true
would_lead c (Some w) = precedes c w

-- even with the lead, and none that is even with it beats this one
abbrev pub is_kept : Candidate → List Candidate → Candidate → Bool
is_kept lead cs c = is_even c lead && not (list_any (λ d. is_even d lead && beats d c) cs)
