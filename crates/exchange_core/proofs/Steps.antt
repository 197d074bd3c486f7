-- When a reply and a state are a step, and what holds after it.
use Rattle.std.proofs.Common.{◌≡◌, true, false, cond, ◌&&◌, List, [], ap, refl, subst, sym, ◌∙◌}
use Rattle.std.specs.Prelude.{Some, None}
use Rattle.std.specs.FinMap.{FinMap, empty}
use Rattle.events.specs.After.{after, next}
use Rattle.events.specs.Forms.{IsWellFormed}
use Rattle.events.specs.Fits.{IsAnswer, IsStep, is_of_job}
use Rattle.events.specs.Refusals.{is_placed, refusal, refusal_in_place, suits_job}
use Rattle.events.specs.State.{State, first}
use Rattle.events.specs.Tags as events
use Rattle.events.specs.declared.Entry.{Entry}
use Rattle.events.specs.declared.Event.{Event}
use Rattle.events.specs.declared.Phase.{Phase}
use Rattle.events.specs.declared.Phase.TheVariants.{Start, Declaring, Running}
use Rattle.events.specs.declared.Refusal.TheVariants.{Misplaced}
use Rattle.events.specs.declared.Reply.{Reply}
use Rattle.exchange_laws.proofs.QuietLines.{quiet_lines_are_accepted}
use Rattle.exchange_laws.proofs.SteadySteps.{starts_steady, steps_stay_steady}
use Rattle.exchange_laws.specs.Quiet.{is_quiet}
use Rattle.exchange_laws.specs.Steady.{IsSteady}
use Rattle.block_build.specs.Installed.{Installed}
use Rattle.net_types.specs.Exports.{pid_of}
use Rattle.net_types.specs.Keys.{prefix_cmp}
use Rattle.net_types.specs.declared.address.Ip.{Ip}
use Rattle.next_hop_pool.specs.Free.{Tags}
use Rattle.prefix_classes.specs.Classes.{Classes}
use Rattle.registry.specs.Registered.{Registered}
use Rattle.route_server.specs.Served.{Served}
use Rattle.exchange_core.specs.Placed.{is_declared}
use Rattle.exchange_core.specs.Programs.{AreCompiled, inbound_texts, outbound_texts}
use Rattle.exchange_core.specs.View.{IsKept, state_of}
use Rattle.exchange_core.specs.declared.programs.Programs.{Programs}

-- a step from an equal state
pub step_from : (s st : State) (e : Event) (r : Reply) (s' : State) → s ≡ st → IsStep s e r s' → IsStep st e r s'
step_from s st e r s' is step = subst (λ x. IsStep x e r s') is step

-- the line is in place once the pool is declared
pub placed : (e : Event) → is_placed Declaring e ≡ true → is_placed Running e ≡ true → (phase : Phase) → is_declared phase ≡ true → is_placed phase e ≡ true
placed e one two Start ready = absurd (cc)
placed e one two Declaring ready = one
placed e one two Running ready = two

pub in_place : (s : State) (e : Event) → (suits_job s.owed e && is_placed s.phase e) ≡ true → refusal s e ≡ refusal_in_place s e
in_place s e here = ap (λ b. cond b (refusal_in_place s e) (Some Misplaced)) here

-- a line that changes no routes and by which nobody takes anything is a step with its answer
pub quiet_step : (s : State) (e : Event) (r : Reply) → IsSteady s → IsWellFormed e → is_of_job e ≡ false → refusal s e ≡ None → is_quiet e ≡ true → IsAnswer s e r (next s e r) → IsStep s e r (after s e)
quiet_step s e r steady formed own none quiet answer = let law = quiet_lines_are_accepted s e r steady formed own none quiet answer in record { fits = law.1; next = sym law.0 }

-- after a step the state is steady
pub steady_after : (s : State) (e : Event) (r : Reply) (s' : State) → IsSteady s → IsWellFormed e → is_of_job e ≡ false → IsStep s e r s' → IsSteady s'
steady_after s e r s' steady formed own step = subst IsSteady (sym step.next) (steps_stay_steady s e r steady formed own step.fits)

-- where the free tags stay, the pool is still theirs
pub kept_after : (s : State) (e : Event) (r : Reply) (s' : State) (pool : Tags) {all : List Programs} → IsKept s pool all → IsWellFormed e → is_of_job e ≡ false → IsStep s e r s'
    → events.free_tags s' ≡ events.free_tags s → s'.base ≡ s.base → s'.size ≡ s.size → (all' : List Programs) → AreCompiled (pid_of s'.routing) all' → IsKept s' pool all'
kept_after s e r s' pool kept formed own step free base size all' compiled = record {
  steady = steady_after s e r s' kept.steady formed own step;
  free = free ∙ kept.free;
  base = kept.base ∙ sym base;
  size = kept.size ∙ sym size;
  compiled = compiled;
}

-- an exchange without lines
pub starts_kept : (names : Registered) (served : Served) (resolved : List (List Ip)) (classes : Classes) (told : List (FinMap prefix_cmp Entry)) (installed : Installed) (pool : Tags) (all : List Programs)
    → names ≡ record { participants = []; ports = [] } → served.routes ≡ empty → served.rules ≡ [] → served.named ≡ [] → resolved ≡ [] → classes.tag ≡ empty → classes.kept ≡ empty → told ≡ []
    → installed.table ≡ empty → installed.capacity ≡ 0 → pool ≡ record { base = record { 0 = 0 }; taken = [] } → all ≡ []
    → IsKept (state_of Start (record { 0 = 0 }) 0 names served resolved classes told installed all) pool all
starts_kept names served resolved classes told installed pool all declared routes rules named none tag kept nothing table capacity free nobody =
    let none_free : Tags = record { base = record { 0 = 0 }; taken = [] } in
    let is : first ≡ state_of Start (record { 0 = 0 }) 0 names served resolved classes told installed all = sym (λ i. record {
      phase = Start;
      base = record { 0 = 0 };
      size = 0;
      capacity = capacity i;
      routing = record { participants = (declared i).participants; ports = (declared i).ports; rules = rules i; named = named i; routes = routes i };
      outbound = outbound_texts (nobody i);
      inbound = inbound_texts (nobody i);
      tag = tag i;
      kept = kept i;
      told = nothing i;
      resolved = none i;
      table = table i;
      owed = None;
    }) in
    let at_first : IsKept first none_free [] = record { steady = starts_steady; free = refl; base = refl; size = refl; compiled = λ b m. absurd (elim m [ ]) } in
    subst (λ s. IsKept s pool all) is (subst (λ (p : Tags). IsKept first p all) (sym free) (subst (IsKept first none_free) (sym nobody) at_first))
