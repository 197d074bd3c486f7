-- What is so after a line: a refused one leaves the state as it was.
use Rattle.events.specs.After.{accepted, next_by}
use Rattle.events.specs.State.{State}
use Rattle.events.specs.declared.Event.{Event}
use Rattle.events.specs.declared.Head.{Head}
use Rattle.events.specs.declared.Head.TheVariants.{Fine, Working, Finished, Unrouted, Unresolved, Silent, Refused}
use Rattle.events.specs.declared.Reply.{Reply}

-- what is so before a line and of the state that an accepted one leaves is so of the next state
pub next_holds : (P : State → Type 0) (s : State) (e : Event) (r : Reply) (h : Head) → P s → P (accepted s e r) → P (next_by h s e r)
next_holds P s e r (Refused why) before passed = before
next_holds P s e r Fine before passed = passed
next_holds P s e r (Working units) before passed = passed
next_holds P s e r Finished before passed = passed
next_holds P s e r Unrouted before passed = passed
next_holds P s e r (Unresolved ip) before passed = passed
next_holds P s e r Silent before passed = passed
