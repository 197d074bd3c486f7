-- Any line with a reply that fits leaves a steady state steady.
use Rattle.std.proofs.Common.{◌≡◌, ℕ, zero, suc, true, false, List, [], ◌∷◌, sym, subst, refl, arith, inl, inr}
use Rattle.std.specs.Prelude.{Option, Some, None, is_some, slice_get}
use Rattle.std.specs.FinMap.{get, get-empty}
use Rattle.events.proofs.Reached.{first_sound, step_sound}
use Rattle.events.specs.After.{accepted, after, next, next_by}
use Rattle.events.specs.Forms.{IsWellFormed}
use Rattle.events.specs.Fits.{Fits, FitsBy, is_of_job}
use Rattle.events.specs.Legal.{LegalFrom, state_from}
use Rattle.events.specs.Refusals.{refusal}
use Rattle.events.specs.Sound.{IsSound}
use Rattle.events.specs.State.{State, first}
use Rattle.events.specs.declared.Event.{Event}
use Rattle.events.specs.declared.Head.{Head}
use Rattle.events.specs.declared.Head.TheVariants.{Fine, Working, Finished, Unrouted, Unresolved, Silent, Refused}
use Rattle.events.specs.declared.Refusal.{Refusal}
use Rattle.events.specs.declared.Reply.{Reply}
use Rattle.exchange_laws.proofs.LineSteps.{Step, step_of}
use Rattle.exchange_laws.proofs.Lists.{TableOf, clash}
use Rattle.exchange_laws.proofs.NewStates.{new_passed, no_live, no_route}
use Rattle.exchange_laws.proofs.PassedSteps.{retabled_passed, step_passed}
use Rattle.exchange_laws.proofs.TidySteps.{IsNewYet, IsTidy, none_whole, retidied, step_new, step_tidy}
use Rattle.exchange_laws.specs.Steady.{HavePassed, IsNew, IsSteady, RunsStaySteady, StartsSteady, StepsStaySteady}
use Rattle.net_types.specs.Keys.{tag_cmp}
use Rattle.net_types.specs.Sets.{Member}

-- ---- the start

first_new : IsNew first
first_new = record { routes = refl; tag = refl; kept = refl; told = λ entries m. absurd m; drop = record { outbound = refl; inbound = refl; named = refl } }

no_place : {A : Type 0} (k : ℕ) (x : A) → let none : List A = [] in slice_get none k ≡ Some x → ⊥
no_place zero x e = cc
no_place (suc k) x e = cc

not_kept : {X : Type 0} (o : Option X) → o ≡ None → is_some o ≡ true → ⊥
not_kept None e f = cc
not_kept (Some x) e f = cc

pub starts_steady : StartsSteady
starts_steady = record {
  sound = first_sound;
  pooled = λ t live. absurd (clash live (no_live first first_new t));
  kept = λ t there. absurd (not_kept (get first.kept t) (get-empty tag_cmp t) there);
  live = λ t live. absurd (clash live (no_live first first_new t));
  owners = λ q m. absurd m;
  told = refl;
  hops = λ who p a e. absurd (no_route first first_new (record { from = who; prefix = p }) a e);
  routed = λ who p a e. absurd (no_route first first_new (record { from = who; prefix = p }) a e);
  apart = record { numbers = λ i j p q e f same. absurd (no_place i p e); addresses = λ i j p q e f same. absurd (no_place i p e) };
  numbered = λ q m. absurd m;
  rules = refl;
  resolved = refl;
  rising = λ ips m. absurd m;
  few = omega arith;
  policies = new_passed first first_new.drop;
  whole = none_whole first refl;
  idle = refl;
  sized = record { start = λ e. refl; small = omega arith; low = λ later. absurd (later refl); high = omega arith; room = omega arith };
  new = λ later. first_new;
}

-- ---- any table

-- what holds of a steady state, whatever its table
record IsLaid (s : State) : Type 0 where
  tidy : IsTidy s
  passed : HavePassed s
  new : IsNewYet s

-- the table is another one
retable : (s : State) (table : TableOf) → IsLaid s → IsLaid (record s { table = table })
retable s table laid = record {
  tidy = retidied s table s.owed laid.tidy.idle laid.tidy;
  passed = retabled_passed s table laid.passed;
  new = λ e. let new : IsNew s = laid.new e in record {
    routes = new.routes;
    tag = new.tag;
    kept = new.kept;
    told = new.told;
    drop = record { outbound = new.drop.outbound; inbound = new.drop.inbound; named = new.drop.named };
  };
}

-- ---- any reply

pub tidy : (s : State) → IsSteady s → IsTidy s
tidy s steady = record {
  pooled = steady.pooled;
  kept = steady.kept;
  live = steady.live;
  whole = steady.whole;
  owners = steady.owners;
  told = steady.told;
  hops = steady.hops;
  routed = steady.routed;
  apart = steady.apart;
  numbered = steady.numbered;
  rules = steady.rules;
  resolved = steady.resolved;
  rising = steady.rising;
  few = steady.few;
  idle = steady.idle;
  sized = steady.sized;
}

module _ (s : State) (e : Event) (r : Reply) (steady : IsSteady s) (formed : IsWellFormed e) (other : is_of_job e ≡ false) where
  accepted_laid : refusal s e ≡ None → IsLaid (accepted s e r)
  accepted_laid none =
      let step : Step s e (after s e) = step_of s e none formed other in
      let new : IsNewYet (after s e) = step_new s e step steady.new in
      retable (after s e) _ (record { tidy = step_tidy s e step steady.new (tidy s steady); passed = step_passed s e step new steady.policies; new = new })

  next_laid : refusal s e ≡ None → (h : Head) → IsLaid (next_by h s e r)
  next_laid none (Refused why) = record { tidy = tidy s steady; passed = steady.policies; new = steady.new }
  next_laid none Fine = accepted_laid none
  next_laid none (Working units) = accepted_laid none
  next_laid none Finished = accepted_laid none
  next_laid none Unrouted = accepted_laid none
  next_laid none (Unresolved ip) = accepted_laid none
  next_laid none Silent = accepted_laid none

  passed : refusal s e ≡ None → IsSound (next s e r) → IsSteady (next s e r)
  passed none sound =
      let laid : IsLaid (next s e r) = next_laid none r.head in
      let is : IsTidy (next s e r) = laid.tidy in record {
        sound = sound;
        pooled = is.pooled;
        kept = is.kept;
        live = is.live;
        owners = is.owners;
        told = is.told;
        hops = is.hops;
        routed = is.routed;
        apart = is.apart;
        numbered = is.numbered;
        rules = is.rules;
        resolved = is.resolved;
        rising = is.rising;
        few = is.few;
        policies = laid.passed;
        whole = is.whole;
        idle = is.idle;
        sized = is.sized;
        new = laid.new;
      }

  step : (o : Option Refusal) → refusal s e ≡ o → FitsBy o s e r → IsSteady (next s e r)
  step (Some why) is fits = subst (λ x. IsSteady (next s e x)) (sym fits) steady
  step None none fits = passed none (step_sound s e r None steady.sound fits)

pub steps_stay_steady : StepsStaySteady
steps_stay_steady s e r steady formed other fits = step s e r steady formed other (refusal s e) refl fits

-- ---- a run

-- what each line keeps, where it is such a line and the reply fits, a legal run of such lines keeps
pub runs_keep : (P : State → Type 0) (Q : Event → Type 0) → ((s : State) (e : Event) (r : Reply) → P s → Q e → Fits s e r → P (next s e r))
    → (s : State) (es : List Event) (rs : List Reply) → ((e : Event) → Member e es → Q e) → P s → LegalFrom s es rs → P (state_from s es rs)
runs_keep P Q keeps s [] [] such holds legal = holds
runs_keep P Q keeps s [] (r ∷ rs) such holds legal = absurd legal
runs_keep P Q keeps s (e ∷ es) [] such holds legal = absurd legal
runs_keep P Q keeps s (e ∷ es) (r ∷ rs) such holds legal = runs_keep P Q keeps (next s e r) es rs (λ x m. such x (inr m)) (keeps s e r holds (such e (inl refl)) legal.0) legal.1

pub runs_stay_steady : RunsStaySteady
runs_stay_steady es rs formed legal =
    runs_keep IsSteady (λ e. IsWellFormed e × (is_of_job e ≡ false)) (λ s e r steady is fits. steps_stay_steady s e r steady is.0 is.1 fits) first es rs formed starts_steady legal
