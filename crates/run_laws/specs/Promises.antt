-- What holds after every legal run of lines: of policies, of adverts and of refusals (this exchange's own rule).
use Rattle.std.specs.Prelude.{◌≡◌, ℕ, ◌≤◌, ◌<◌, ◌⊎◌, true, List, length, Some, None}
use Rattle.events.specs.After.{next}
use Rattle.events.specs.Fits.{Fits, bare, is_building}
use Rattle.events.specs.Legal.{Legal, state_after}
use Rattle.events.specs.Refusals.{refusal}
use Rattle.events.specs.State.{State, ArePassed, ArePolicies}
use Rattle.events.specs.declared.Event.{Event}
use Rattle.events.specs.declared.Head.TheVariants.{Refused}
use Rattle.events.specs.declared.Refusal.{Refusal}
use Rattle.events.specs.declared.Refusal.TheVariants.{TableFull}
use Rattle.events.specs.declared.Reply.{Reply}
use Rattle.net_types.specs.Answers.{Policies}
use Rattle.net_types.specs.Sets.{Member}

-- after any legal run the texts are read as policies that passed isolation, and the routing has whom the outbound ones name
abbrev pub PoliciesHavePassed : Type 0
PoliciesHavePassed =
    (es : List Event) (rs : List Reply) → Legal es rs → (ps : Policies) × ArePolicies (state_after es rs) ps × ArePassed (state_after es rs) ps

-- after any legal run each advert of a reply that fits takes at most 4096 octets, as many as a message may have (RFC 4271 4.1)
abbrev pub AdvertsFitMessages : Type 0
AdvertsFitMessages =
    (es : List Event) (rs : List Reply) → Legal es rs → (e : Event) (r : Reply) → Fits (state_after es rs) e r
    → (message : List ℕ) → Member message r.adverts → length message ≤ 4096

-- no condition of a refusal holds, but the line builds rules, and the table would have more of them than it has room for
pub record IsForTable (s : State) (e : Event) (why : Refusal) : Type 0 where
  pub none : refusal s e ≡ None
  pub building : is_building e ≡ true
  pub rules : ℕ
  pub over : s.capacity < rules
  pub full : why ≡ TableFull rules s.capacity

-- A refusal has no details and leaves the state as it was. It is the first whose condition holds, or the table would be full.
pub record IsRefused (s : State) (e : Event) (r : Reply) (why : Refusal) : Type 0 where
  pub stays : next s e r ≡ s
  pub bare : r ≡ bare (Refused why)
  pub first : (refusal s e ≡ Some why) ⊎ IsForTable s e why

-- after any legal run this holds of each refusal in a reply that fits
abbrev pub RefusalsChangeNothing : Type 0
RefusalsChangeNothing =
    (es : List Event) (rs : List Reply) → Legal es rs → (e : Event) (r : Reply) (why : Refusal) → Fits (state_after es rs) e r
    → r.head ≡ Refused why → IsRefused (state_after es rs) e r why
