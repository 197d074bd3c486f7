-- Refusals come in order, and refused lines can be left out.
use Rattle.std.proofs.Common.{◌≡◌, List, [], ◌∷◌, ◌++◌, refl, sym, subst, ap, ◌∙◌}
use Rattle.std.specs.Prelude.{Some}
use Rattle.events.specs.After.{next}
use Rattle.events.specs.Fits.{Fits, FitsBy, bare}
use Rattle.events.specs.Legal.{Legal, LegalFrom, state_after, state_from}
use Rattle.events.specs.Refusals.{refusal}
use Rattle.events.specs.State.{State, first}
use Rattle.events.specs.declared.Event.{Event}
use Rattle.events.specs.declared.Head.{Head}
use Rattle.events.specs.declared.Head.TheVariants.{Fine, Working, Finished, Unrouted, Unresolved, Silent, Refused}
use Rattle.events.specs.declared.Refusal.{Refusal}
use Rattle.events.specs.declared.Reply.{Reply}
use Rattle.run_laws.proofs.OneMore.{legal_more, state_more}
use Rattle.run_laws.proofs.Refusing.{refusals_change_nothing}
use Rattle.run_laws.specs.Refusing.{AreRefusedRight, IsRefusedRight, RefusalsAreInOrder, accepted_events, accepted_replies, unless_refused}

-- ---- each refusal

named : (s : State) (e : Event) (r : Reply) → Fits s e r → (why : Refusal) → refusal s e ≡ Some why → r ≡ bare (Refused why)
named s e r fits why is = subst (λ o. FitsBy o s e r) is fits

-- behind the first lines of a legal run each line is refused right
right_behind : (es fs : List Event) (rs qs : List Reply) → Legal es rs → LegalFrom (state_after es rs) fs qs → AreRefusedRight (state_after es rs) fs qs
right_behind es [] rs qs legal behind = tt
right_behind es (e ∷ fs) rs [] legal behind = tt
right_behind es (e ∷ fs) rs (r ∷ qs) legal behind =
    let s : State = state_after es rs in
    let more : state_after (es ++ e ∷ []) (rs ++ r ∷ []) ≡ next s e r = state_more first es rs e r legal in (
      record { named = named s e r behind.0; ordered = λ why is. refusals_change_nothing es rs legal e r why behind.0 is },
      subst (λ t. AreRefusedRight t fs qs) more
          (right_behind (es ++ e ∷ []) fs (rs ++ r ∷ []) qs (legal_more first es rs e r legal behind.0) (subst (λ t. LegalFrom t fs qs) (sym more) behind.1)),
    )

-- ---- without refused lines

-- the lines behind the first are legal from the same state, and come to the same one
record IsLeftOut (s : State) (es : List Event) (rs : List Reply) (fs : List Event) (qs : List Reply) : Type 0 where
  legal : LegalFrom s fs qs
  same : state_from s fs qs ≡ state_from s es rs

module _ (s : State) (e : Event) (es fs : List Event) (r : Reply) (rs qs : List Reply) (fits : Fits s e r) (behind : IsLeftOut (next s e r) es rs fs qs) where
  stays : next s e r ≡ s → IsLeftOut s (e ∷ es) (r ∷ rs) fs qs
  stays is = record {
    legal = subst (λ t. LegalFrom t fs qs) is behind.legal;
    same = ap (λ t. state_from t fs qs) (sym is) ∙ behind.same;
  }

  goes_on : IsLeftOut s (e ∷ es) (r ∷ rs) (e ∷ fs) (r ∷ qs)
  goes_on = record { legal = (fits, behind.legal); same = behind.same }

  -- by what the line is answered
  by_head : (h : Head) → r.head ≡ h → IsRefusedRight s e r → IsLeftOut s (e ∷ es) (r ∷ rs) (unless_refused h e fs) (unless_refused h r qs)
  by_head (Refused why) is right = stays (right.ordered why is).stays
  by_head Fine is right = goes_on
  by_head (Working units) is right = goes_on
  by_head Finished is right = goes_on
  by_head Unrouted is right = goes_on
  by_head (Unresolved ip) is right = goes_on
  by_head Silent is right = goes_on

left_out : (s : State) (es : List Event) (rs : List Reply) → LegalFrom s es rs → AreRefusedRight s es rs → IsLeftOut s es rs (accepted_events es rs) (accepted_replies rs)
left_out s [] [] legal right = record { legal = tt; same = refl }
left_out s [] (r ∷ rs) legal right = absurd legal
left_out s (e ∷ es) [] legal right = absurd legal
left_out s (e ∷ es) (r ∷ rs) legal right =
    by_head s e es (accepted_events es rs) r rs (accepted_replies rs) legal.0 (left_out (next s e r) es rs legal.1 right.1) r.head refl right.0

pub refusals_are_in_order : RefusalsAreInOrder
refusals_are_in_order es rs legal =
    let right : AreRefusedRight first es rs = right_behind [] es [] rs tt legal in
    let out : IsLeftOut first es rs (accepted_events es rs) (accepted_replies rs) = left_out first es rs legal right in
    record { right = right; legal = out.legal; same = out.same }
