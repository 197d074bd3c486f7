-- Completeness: what no refusal stops, and what the table has room for, is accepted.
use Rattle.std.proofs.Common.{◌≤◌, Bool, true, false, subst, arith, sum_by, inl, inr}
use Rattle.events.specs.After.{after}
use Rattle.events.specs.Fits.{FitsBy, IsAccepted, Passes, cells, is_building}
use Rattle.events.specs.Headline.{AcceptsLines, HasRoom}
use Rattle.events.specs.Tags.{live_pairs}
use Rattle.events.specs.State.{State}
use Rattle.events.specs.declared.Event.{Event}
use Rattle.events.specs.declared.Reply.{Reply}

passed_accepted : (s : State) (e : Event) (r : Reply) (b : Bool) → HasRoom s e → Passes b s e r → IsAccepted s e r
passed_accepted s e r false room passed = passed
passed_accepted s e r true room passed = elim passed [
  | inl accepted ↦ accepted
  | inr full ↦ (let few : full.rules ≤ sum_by (cells room.0 (after s e)) (live_pairs (after s e)) = full.few room.0 room.1 in let all : sum_by (cells room.0 (after s e)) (live_pairs (after s e)) ≤ s.capacity = room.2 in absurd (omega arith))
]

pub accepts_lines : AcceptsLines
accepts_lines s e r none room fits = passed_accepted s e r (is_building e) room (subst (λ o. FitsBy o s e r) none fits)
