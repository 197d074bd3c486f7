-- What a participant's session takes of what is pending (this exchange's own rule).
use Rattle.std.specs.Prelude.{◌≡◌, ℕ, List, take, Some, None}
use Rattle.std.specs.FinMap.{get}
use Rattle.events.specs.After.{next}
use Rattle.events.specs.Fits.{Fits, adverts}
use Rattle.events.specs.Legal.{Legal, state_after}
use Rattle.events.specs.Pending.{pending}
use Rattle.events.specs.Refusals.{refusal}
use Rattle.events.specs.State.{State, present, told_to}
use Rattle.events.specs.declared.Event.{Event}
use Rattle.events.specs.declared.Event.TheVariants.{Drain, Take}
use Rattle.events.specs.declared.Reply.{Reply}
use Rattle.net_types.specs.Exports.{pid_of}
use Rattle.net_types.specs.Sets.{Member}
use Rattle.net_types.specs.declared.address.Pid.{Pid}
use Rattle.net_types.specs.declared.prefix.Prefix.{Prefix}

-- A participant is told of just these prefixes, in this order: what is present of them before the line and after it. Of other
-- prefixes, and to other participants, all stays told as it was.
pub record TellsOf (s s' : State) (who : Pid) (prefixes : List Prefix) (r : Reply) : Type 0 where
  pub adverts : r.adverts ≡ adverts s who prefixes
  pub these : (p : Prefix) → Member p prefixes → get (told_to s' who) p ≡ get (present s who) p
  pub other_prefixes : (p : Prefix) → ¬ Member p prefixes → get (told_to s' who) p ≡ get (told_to s who) p
  pub other_participants : (other : Pid) → ¬ other.0 ≡ who.0 → told_to s' other ≡ told_to s other
  pub stays_present : (other : Pid) → present s' other ≡ present s other

-- an accepted line of a participant tells it of these prefixes
abbrev pub Tells : State → Event → (Pid → List Prefix) → Pid → Type 0
Tells s e prefixes who = (r : Reply) → refusal s e ≡ None → Fits s e r → TellsOf s (next s e r) who (prefixes who) r

-- After any legal run `take` tells of the first prefixes that are pending, as many as it says, or all where there are fewer,
-- and `drain` of all of them.
abbrev pub TakesTellTheFirst : Type 0
TakesTellTheFirst =
    (es : List Event) (rs : List Reply) → Legal es rs → (name : List ℕ) (who : Pid) → pid_of (state_after es rs).routing name ≡ Some who
    → ((count : ℕ) → Tells (state_after es rs) (Take name count) (λ x. take count (pending (state_after es rs) x)) who)
    × Tells (state_after es rs) (Drain name) (pending (state_after es rs)) who
