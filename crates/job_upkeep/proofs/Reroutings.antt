-- After a change of the routes a job that is told what the plan says covers the state, and owes what the state says.
use Rattle.std.proofs.Common.{◌≡◌, ◌+◌, ◌*◌, Bool, true, length, sym, ap, subst, ◌∙◌, refl}
use Rattle.std.specs.Prelude.{Some, None}
use Rattle.std.specs.Option.{option_map}
use Rattle.std.proofs.lemmas.List.{length-take-le}
use Rattle.events.specs.After.{next}
use Rattle.events.specs.Fits.{is_building}
use Rattle.events.specs.Forms.{IsWellFormed}
use Rattle.events.specs.Refusals.{refusal}
use Rattle.events.specs.State.{State}
use Rattle.events.specs.Tags.{capped, free_tags, groups, more_units}
use Rattle.events.specs.declared.Event.{Event}
use Rattle.events.specs.declared.Event.TheVariants.{Bad, Exchange, Participant as DeclaresParticipant, Port as DeclaresPort, Update, Down, Export, Outbound, Inbound, Take, Drain, Arp, Resolve, Packet, Frame, Recompile, Work, Table}
use Rattle.exchange_laws.proofs.LineSteps.{building_other}
use Rattle.exchange_laws.proofs.Rerouted.{Rerouted, rerouted}
use Rattle.exchange_laws.specs.Editing.{IsEdit}
use Rattle.exchange_laws.specs.Steady.{IsSteady, StepsStaySteady}
use Rattle.fast_path.proofs.CommittedPlans.{plan_tags}
use Rattle.fast_path.specs.Carried.{IsPlanned, PlansFitLines, plan_reply}
use Rattle.fast_path.specs.Plans.{planned}
use Rattle.fast_path.specs.declared.planned.Plan.{Plan}
use Rattle.job_laws.proofs.OtherLines.{after_but}
use Rattle.job_laws.specs.Jobs.{without_job}
use Rattle.job_laws.specs.Steps.{JobsLeaveLines}
use Rattle.job_upkeep.proofs.Few.{few_steady}
use Rattle.job_upkeep.proofs.QuietLines.{setting_without}
use Rattle.job_upkeep.proofs.Planned.{told}
use Rattle.job_upkeep.specs.Upkeep.{PlansTellChanges, ReroutingsKeepJobs, fresh_of}
use Rattle.net_types.specs.Exports.{Routing}
use Rattle.net_types.specs.declared.rule.Pair.{Pair}
use Rattle.recompile.specs.Covering.{AreFew, Covers}
use Rattle.recompile.specs.Setting.{setting_of}

-- ---- lines that build rules are refused alike with a job as without

pub refused_alike : (s : State) (e : Event) → is_building e ≡ true → refusal (without_job s) e ≡ refusal s e
refused_alike s (Update name bytes) building = refl
refused_alike s (Down name) building = refl
refused_alike s (Export name text) building = refl
refused_alike s (Outbound name text) building = refl
refused_alike s (Inbound name text) building = refl
refused_alike s Bad building = absurd (cc)
refused_alike s (Exchange base size capacity) building = absurd (cc)
refused_alike s (DeclaresParticipant name asn id) building = absurd (cc)
refused_alike s (DeclaresPort name number ip mac) building = absurd (cc)
refused_alike s (Take name count) building = absurd (cc)
refused_alike s (Drain name) building = absurd (cc)
refused_alike s (Arp n bytes) building = absurd (cc)
refused_alike s (Resolve n) building = absurd (cc)
refused_alike s (Packet n bytes) building = absurd (cc)
refused_alike s (Frame n bytes) building = absurd (cc)
refused_alike s Recompile building = absurd (cc)
refused_alike s (Work units) building = absurd (cc)
refused_alike s Table building = absurd (cc)

-- ---- the state after a plan

module _ (steps : StepsStaySteady) (fit : PlansFitLines) where
  pub few_planned : (s : State) (e : Event) (s0 : State) (r : Routing) (is_rebuilt : Pair → Bool) (plan : Plan) → IsSteady s → IsWellFormed e → IsEdit s e s0 r is_rebuilt → IsPlanned s0 r is_rebuilt plan → AreFew (setting_of (planned s0 r plan))
  few_planned s e s0 r is_rebuilt plan steady formed edit made =
      let fits = fit s e s0 r is_rebuilt plan made edit in
      subst (λ x. AreFew (setting_of x)) fits.0 (few_steady (next s e (plan_reply plan)) (steps s e (plan_reply plan) steady formed (building_other e edit.building) fits.1))

  pub tells : PlansTellChanges
  tells s e s0 r is_rebuilt plan steady formed edit made = told s0 r is_rebuilt plan made.base made.alike made.planned (few_planned s e s0 r is_rebuilt plan steady formed edit made)

  -- ---- what is owed

  -- so many fresh tags as groups
  pub fresh_count : (s : State) (r : Routing) (is_rebuilt : Pair → Bool) (plan : Plan) → IsPlanned s r is_rebuilt plan → length (fresh_of plan) ≡ length (groups s r)
  fresh_count s r is_rebuilt plan made = ap length (plan_tags s r is_rebuilt plan made.base made.alike made.planned) ∙ length-take-le (length (groups s r)) (free_tags s) made.planned.enough

  -- the routes after the line are those of the plan
  same_routing : (s : State) (e : Event) (r : Routing) (is_rebuilt : Pair → Bool) → let c = without_job s in (edit : IsEdit c e c r is_rebuilt) → (is : Rerouted s e) → is.routing ≡ r
  same_routing s e r is_rebuilt edit is =
      ap (λ (x : State). x.routing) (sym is.leaves) ∙ ap (λ (x : State). x.routing) (sym (after_but s None e (building_other e edit.building))) ∙ ap (λ (x : State). x.routing) edit.leaves

  pub keep : JobsLeaveLines → ReroutingsKeepJobs
  keep leave s e r is_rebuilt plan old new steady formed rerouting edit made covers owes has =
      let c = without_job s in
      let fits = fit c e c r is_rebuilt plan made edit in
      let is = rerouted s e rerouting (sym (refused_alike s e edit.building) ∙ edit.passes) in
      let units : more_units s r ≡ plan.newly + length (fresh_of plan) * (length s.routing.ports + 1) =
      ap (λ n. n + length (groups s r) * (length s.routing.ports + 1)) (sym made.planned.newly) ∙ ap (λ n. plan.newly + n * (length s.routing.ports + 1)) (sym (fresh_count c r is_rebuilt plan made)) in (
        ap (λ (x : State). x.owed) is.leaves ∙ ap (option_map (λ n. capped (n + more_units s is.routing))) has.0
            ∙ ap (λ q. Some (capped (old.owed + more_units s q))) (same_routing s e r is_rebuilt edit is) ∙ ap (λ n. Some (capped (old.owed + n))) units ∙ ap Some (sym owes),
        subst (λ x. Covers x new) (sym (setting_without leave s e (plan_reply plan) (building_other e edit.building) ∙ ap setting_of fits.0))
            (covers (setting_of s) (setting_of (planned c r plan)) has.1 (tells c e c r is_rebuilt plan steady formed edit made)),
      )
