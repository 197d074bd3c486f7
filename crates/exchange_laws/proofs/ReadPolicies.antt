-- The policies that the texts of a state are read as are one.
use Rattle.std.proofs.Common.{◌≡◌, ℕ, List, [], ◌∷◌, sym, ap, ◌∙◌, refl}
use Rattle.std.specs.Prelude.{Result, Ok}
use Rattle.net_types.specs.Answers.{Policies}
use Rattle.net_types.specs.Policies.{Policy}
use Rattle.net_types.specs.PolicyReading.{policy_of_text}
use Rattle.events.specs.State.{State, ArePolicies, AreRead}

pub one_policy : {E : Type 0} (read : Result Policy E) (p q : Policy) → read ≡ Ok p → read ≡ Ok q → p ≡ q
one_policy read p q is again = cc

pub one_reading : (texts : List (List ℕ)) (ps qs : List Policy) → AreRead texts ps → AreRead texts qs → ps ≡ qs
one_reading [] [] [] read again = refl
one_reading [] [] (q ∷ qs) read again = absurd again
one_reading [] (p ∷ ps) qs read again = absurd read
one_reading (text ∷ texts) [] qs read again = absurd read
one_reading (text ∷ texts) (p ∷ ps) [] read again = absurd again
one_reading (text ∷ texts) (p ∷ ps) (q ∷ qs) read again =
    ap (λ x. x ∷ ps) (one_policy (policy_of_text text) p q read.0 again.0) ∙ ap (λ xs. q ∷ xs) (one_reading texts ps qs read.1 again.1)

-- the policies of a state are one
pub policies_are_one : {s : State} {ps qs : Policies} → ArePolicies s ps → ArePolicies s qs → ps ≡ qs
policies_are_one {s} {ps} {qs} are others =
    let outbound : ps.outbound ≡ qs.outbound = one_reading s.outbound ps.outbound qs.outbound are.outbound others.outbound in
    let inbound : ps.inbound ≡ qs.inbound = one_reading s.inbound ps.inbound qs.inbound are.inbound others.inbound in
    λ i. record { named = (are.names ∙ sym others.names) i; outbound = outbound i; inbound = inbound i }
