-- Refusals in whole runs (this exchange's own rule).
use Rattle.std.specs.Prelude.{◌≡◌, List, [], ◌∷◌, Some}
use Rattle.events.specs.After.{next}
use Rattle.events.specs.Fits.{bare}
use Rattle.events.specs.Legal.{Legal, state_after}
use Rattle.events.specs.Refusals.{refusal}
use Rattle.events.specs.State.{State, first}
use Rattle.events.specs.declared.Event.{Event}
use Rattle.events.specs.declared.Head.{Head}
use Rattle.events.specs.declared.Head.TheVariants.{Refused}
use Rattle.events.specs.declared.Refusal.{Refusal}
use Rattle.events.specs.declared.Reply.{Reply}
use Rattle.run_laws.specs.Promises.{IsRefused}

-- Where a condition holds, the reply is the refusal of the first one. Each refusal has no details, leaves the state as it was,
-- and is that of the first condition that holds, or the table would be full.
pub record IsRefusedRight (s : State) (e : Event) (r : Reply) : Type 0 where
  pub named : (why : Refusal) → refusal s e ≡ Some why → r ≡ bare (Refused why)
  pub ordered : (why : Refusal) → r.head ≡ Refused why → IsRefused s e r why

-- so at each line, in the state that the lines before leave
abbrev pub AreRefusedRight : State → List Event → List Reply → Type 0
AreRefusedRight s [] rs = Unit {0}
AreRefusedRight s (e ∷ es) [] = Unit {0}
AreRefusedRight s (e ∷ es) (r ∷ rs) = IsRefusedRight s e r × AreRefusedRight (next s e r) es rs

-- a line whose reply has this head is left out where that is a refusal
abbrev pub unless_refused : {X : Type 0} → Head → X → List X → List X
unless_refused (Refused why) x xs = xs
unless_refused answer x xs = x ∷ xs

-- the lines that are not refused
abbrev pub accepted_events : List Event → List Reply → List Event
accepted_events [] rs = []
accepted_events (e ∷ es) [] = []
accepted_events (e ∷ es) (r ∷ rs) = unless_refused r.head e (accepted_events es rs)

-- the replies that are no refusals
abbrev pub accepted_replies : List Reply → List Reply
accepted_replies [] = []
accepted_replies (r ∷ rs) = unless_refused r.head r (accepted_replies rs)

-- Each refusal is the right one. Without the refused lines the run is legal and comes to the same state.
pub record IsRefusedInOrder (es : List Event) (rs : List Reply) : Type 0 where
  pub right : AreRefusedRight first es rs
  pub legal : Legal (accepted_events es rs) (accepted_replies rs)
  pub same : state_after (accepted_events es rs) (accepted_replies rs) ≡ state_after es rs

-- this holds of every legal run
abbrev pub RefusalsAreInOrder : Type 0
RefusalsAreInOrder = (es : List Event) (rs : List Reply) → Legal es rs → IsRefusedInOrder es rs
