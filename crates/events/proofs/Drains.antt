-- Whoever takes all that is pending is drained.
use Rattle.std.proofs.Common.{◌≡◌, ℕ, zero, suc, ◌<◌, List, [], ◌∷◌, length, sym, ap, subst, ◌∙◌, refl, arith}
use Rattle.std.specs.Prelude.{Option, Some, slice_get, slice_set, unwrap_or, MatchOption}
use Rattle.std.specs.FinMap.{FinMap, empty}
use Rattle.events.proofs.Reached.{IsDeclared, declared_pid, runs_declared}
use Rattle.events.specs.After.{next, next_by, with_known, with_told, settled, running}
use Rattle.events.specs.Fits.{FitsBy, IsAccepted, IsTaken}
use Rattle.events.specs.Headline.{DrainDrains}
use Rattle.events.specs.Legal.{state_after}
use Rattle.events.specs.Pending.{pending}
use Rattle.events.specs.State.{State, Entry, IsDrained, present}
use Rattle.events.specs.declared.Event.TheVariants.{Drain}
use Rattle.events.specs.declared.Head.TheVariants.{Fine}
use Rattle.events.specs.declared.Reply.{Reply}
use Rattle.net_types.specs.Exports.{pid_of}
use Rattle.net_types.specs.Keys.{prefix_cmp}
use Rattle.net_types.specs.declared.address.Pid.{Pid}

-- what was set at a place stands there
pub get_set : {A : Type 0} (xs : List A) (k : ℕ) (x d : A) → k < length xs → unwrap_or (slice_get (slice_set xs k x) k) d ≡ x
get_set [] k x d below = absurd (omega arith)
get_set (y ∷ xs) zero x d below = refl
get_set (y ∷ xs) (suc k) x d below = get_set xs k x d (omega arith)

drained_after : (s : State) (name : List ℕ) (r : Reply) (who : Pid) → who.0 < length s.told → pid_of s.routing name ≡ Some who → IsDrained (next_by Fine s (Drain name) r) who
drained_after s name r who within known =
    let told_in : Option Pid → List (FinMap prefix_cmp Entry) = λ o. (with_known s o (λ w. settled (running (with_told s w (present s w))))).told in
    let present_in : Option Pid → FinMap prefix_cmp Entry = λ o. present (with_known s o (λ w. settled (running (with_told s w (present s w))))) who in
    ap (λ o. unwrap_or (slice_get (told_in o) who.0) empty) known ∙ get_set s.told who.0 (present s who) empty within ∙ sym (ap present_in known)

head_is : (s s' : State) (r : Reply) (who : Pid) (o : Option Pid) → o ≡ Some who → MatchOption o ⊥ (λ w. IsTaken s s' w (pending s w) r) → r.head ≡ Fine
head_is s s' r who o known taken = let P : Option Pid → Type 0 = λ x. MatchOption x ⊥ (λ w. IsTaken s s' w (pending s w) r) in let here : P (Some who) = subst P known taken in here.head

pub drains : DrainDrains
drains es rs legal name r who none fits known =
    let s : State = state_after es rs in
    let accepted : IsAccepted s (Drain name) r = subst (λ o. FitsBy o s (Drain name) r) none fits in
    let head : r.head ≡ Fine = head_is s (next s (Drain name) r) r who (pid_of s.routing name) known accepted.answer in
    let declared : IsDeclared s = runs_declared es rs in
    let within : who.0 < length s.routing.participants = declared_pid s.routing name who known in
    let kept : length s.told ≡ length s.routing.participants = declared.told in
    subst (λ h. IsDrained (next_by h s (Drain name) r) who) (sym head) (drained_after s name r who (omega arith) known)
