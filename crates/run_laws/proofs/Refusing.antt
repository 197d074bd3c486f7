-- Which replies are refusals, and what they leave.
use Rattle.std.proofs.Common.{◌≡◌, Bool, true, false, ap, sym, ◌∙◌, refl, inl, inr}
use Rattle.std.specs.Prelude.{Option, Some, None}
use Rattle.events.specs.After.{next, next_by}
use Rattle.events.specs.Fits.{FitsBy, IsAccepted, Passes, bare, is_building}
use Rattle.events.specs.Legal.{state_after}
use Rattle.events.specs.Refusals.{refusal}
use Rattle.events.specs.State.{State}
use Rattle.events.specs.declared.Event.{Event}
use Rattle.events.specs.declared.Head.TheVariants.{Refused}
use Rattle.events.specs.declared.Refusal.{Refusal}
use Rattle.events.specs.declared.Refusal.TheVariants.{TableFull}
use Rattle.events.specs.declared.Reply.{Reply}
use Rattle.run_laws.proofs.Answered.{answered}
use Rattle.run_laws.specs.Promises.{IsRefused, RefusalsChangeNothing}

module _ (s : State) (e : Event) (r : Reply) (why : Refusal) (refused : r.head ≡ Refused why) where
  stays : next s e r ≡ s
  stays = ap (λ h. next_by h s e r) refused

  -- a bare refusal is that one
  same_refusal : (w : Refusal) → r ≡ bare (Refused w) → w ≡ why
  same_refusal w is = let heads : Refused w ≡ Refused why = sym (ap (λ (x : Reply). x.head) is) ∙ refused in cc

  accepted : IsAccepted s e r → IsRefused s e r why
  accepted is = absurd ((answered s e r (next s e r) is.answer).accepts why refused)

  passed : (b : Bool) → refusal s e ≡ None → is_building e ≡ b → Passes b s e r → IsRefused s e r why
  passed false none building is = accepted is
  passed true none building is = elim is [
    | inl there ↦ accepted there
    | inr full ↦ (let same : TableFull full.rules s.capacity ≡ why = same_refusal (TableFull full.rules s.capacity) full.head in record {
      stays = stays;
      bare = full.head ∙ ap (λ w. bare (Refused w)) same;
      first = inr (record { none = none; building = building; rules = full.rules; over = full.over; full = sym same });
    })
  ]

  refused_by : (o : Option Refusal) → refusal s e ≡ o → FitsBy o s e r → IsRefused s e r why
  refused_by (Some w) stopped fits =
      let same : w ≡ why = same_refusal w fits in record { stays = stays; bare = fits ∙ ap (λ x. bare (Refused x)) same; first = inl (stopped ∙ ap Some same) }
  refused_by None none fits = passed (is_building e) none refl fits

pub refusals_change_nothing : RefusalsChangeNothing
refusals_change_nothing es rs legal e r why fits refused =
    let s : State = state_after es rs in refused_by s e r why refused (refusal s e) refl fits
