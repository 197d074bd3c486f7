-- What stops a line that isn't carried out.
use Rattle.std.proofs.Common.{◌≡◌, true, ◌&&◌, ap, subst, sym, ◌∙◌, refl}
use Rattle.std.specs.Prelude.{Option, Some, None, Result, Err}
use Rattle.std.specs.Result.{IsErrAnd}
use Rattle.std.proofs.lemmas.Result.{err_from_is_err_and}
use Rattle.events.specs.Fits.{FitsBy, bare}
use Rattle.events.specs.Refusals.{if_known, is_placed, or_else, refusal, refusal_in_place, suits_job}
use Rattle.events.specs.State.{State}
use Rattle.events.specs.declared.Event.{Event}
use Rattle.events.specs.declared.Head.TheVariants as heads
use Rattle.events.specs.declared.Refusal.{Refusal}
use Rattle.events.specs.declared.Refusal.TheVariants.{Unknown}
use Rattle.exchange_core.specs.Stops.{IsFirst, IsStop}
use Rattle.exchange_core.specs.declared.stop.Stop.{Stop}
use Rattle.exchange_core.specs.declared.stop.Stop.TheVariants.{Refused, Memory}
use Rattle.exchange_core.proofs.Steps.{in_place}

-- the first refusal fits the line
pub refusal_stops : (s : State) (e : Event) (why : Refusal) → refusal s e ≡ Some why → IsStop s e (Refused why)
refusal_stops s e why is = subst (λ o. FitsBy o s e (bare (heads.Refused why))) (sym is) refl

pub stops_at : (s st : State) (e : Event) (stop : Stop) (why : Refusal) → s ≡ st → stop ≡ Refused why → refusal s e ≡ Some why → IsStop st e stop
stops_at s st e stop why is says holds = subst (λ x. IsStop x e stop) is (subst (IsStop s e) (sym says) (refusal_stops s e why holds))

pub first_stops : (s : State) (e : Event) (stop : Stop) → IsFirst (refusal s e) stop → IsStop s e stop
first_stops s e (Refused why) is = refusal_stops s e why is
first_stops s e Memory is = tt

-- what comes first of two comes first
pub first_of_two : (a b : Option Refusal) (stop : Stop) → IsFirst a stop → IsFirst (or_else a b) stop
first_of_two a b (Refused why) is = ap (λ o. or_else o b) is
first_of_two a b Memory is = tt

-- a line in place whose sender or port isn't declared is refused for that
pub unknown_stops : {X : Type 0} (s : State) (e : Event) (stop : Stop) (found : Option X) (then : X → Option Refusal) → (suits_job s.owed e && is_placed s.phase e) ≡ true → refusal_in_place s e ≡ if_known found then → (found ≡ None) × (stop ≡ Refused Unknown) → IsStop s e stop
unknown_stops s e stop found then here asks (none, is) = subst (IsStop s e) (sym is) (refusal_stops s e Unknown (in_place s e here ∙ asks ∙ ap (λ o. if_known o then) none))

-- what holds of the stop that a `?` makes of a fault holds of what is returned
pub returned : {T : Type 0} (P : Result T Stop → Type 0) (result : Result T Stop) (stop : Stop) → IsErrAnd result (λ e. e ≡ stop) → P (Err stop) → P result
returned {T} P result stop is holds = let p = err_from_is_err_and result is in subst P (sym (p.1 ∙ ap (λ (e : Stop). let r : Result T Stop = Err e in r) p.2)) holds
