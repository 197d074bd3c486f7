use Rattle.std.proofs.Common.{◌≡◌, ◌<◌, ap, length, sym, subst, ◌∙◌, refl, []}
use Rattle.std.specs.Prelude.{slice_set}
use Rattle.advert_queue.specs.Advertised.{present_of}
use Rattle.advert_queue.specs.Telling.{tags_of}
use Rattle.events.proofs.Reached.{set_length}
use Rattle.events.specs.State.{State, present, told_to}
use Rattle.plan_cases.proofs.Takes.{kept_present, told_kept}
use Rattle.plan_cases.specs.Parts.{IsKept, state_of}
use Rattle.plan_cases.proofs.parts.Parts.tell.Goals as goal

pub take-requires : goal.take-requires
take-requires c = record { declared = subst (λ (x : State). c.args.who.0 < length x.told) (sym c.self.view_is) c.requires.declared }

pub invariant_of-self : goal.invariant_of-self
invariant_of-self c =
    let a = c.self.inside in
    let who = c.args.who in
    let s : State = state_of a.registry a.server a.classes a.pool a.adverts.told a.switch a.policies.items in
    let nothing : tags_of (told_to s who) ≡ [] = subst (λ (x : State). tags_of (told_to x who) ≡ []) (sym c.self.view_is) c.requires.nothing in
    let here : who.0 < length s.told = subst (λ (x : State). who.0 < length x.told) (sym c.self.view_is) c.requires.declared in
    let place : who.0 < length s.routing.participants = subst (λ n. who.0 < n) c.self.invariant.base.told here in
    let now_is : present_of a.adverts who ≡ present s who = kept_present s a.adverts.present who c.self.invariant.present place in
    let told_is : c.take.new.self.told ≡ slice_set s.told who.0 (present s who) = c.take.ensures.told ∙ ap (slice_set s.told who.0) now_is in
    subst (λ told. IsKept (record s { told = told }) a.pool c.take.new.self.present) (sym told_is)
    (subst (IsKept (record s { told = slice_set s.told who.0 (present s who) }) a.pool) (sym c.take.ensures.present) (told_kept s who c.self.invariant.base refl nothing a.pool a.adverts.present c.self.invariant))

pub returns : goal.returns
returns c = ap length c.take.ensures.told ∙ set_length c.self.inside.adverts.told c.args.who.0 _ ∙ ap (λ (x : State). length x.told) c.self.view_is
