-- What each line that no refusal stops carries on holds after every legal run.
use Rattle.std.proofs.Common.{◌≡◌, Bool, true, false, cond, List, [], ◌∷◌, subst, sym, refl, inl, inr}
use Rattle.std.specs.Prelude.{Option, Some, None}
use Rattle.std.specs.FinMap.{FinMap}
use Rattle.events.specs.After.{after, next, next_by}
use Rattle.events.specs.Fits.{FitsBy}
use Rattle.events.specs.Legal.{Legal, LegalFrom, state_after, state_from}
use Rattle.events.specs.Refusals.{refusal}
use Rattle.events.specs.State.{State, first}
use Rattle.events.specs.declared.Event.{Event}
use Rattle.events.specs.declared.Head.{Head}
use Rattle.events.specs.declared.Head.TheVariants.{Fine, Working, Finished, Unrouted, Unresolved, Silent, Refused}
use Rattle.events.specs.declared.Refusal.{Refusal}
use Rattle.events.specs.declared.Reply.{Reply}
use Rattle.net_types.specs.Keys.{pair_cmp}
use Rattle.net_types.specs.Sets.{Member}
use Rattle.net_types.specs.declared.rule.Rule.{Rule}

-- ---- no refusal

pub not_before : {A : Type 0} (b : Bool) (x : A) (o : Option A) → cond b (Some x) o ≡ None → o ≡ None
not_before true x o e = absurd (cc)
not_before false x o e = e

-- ---- runs

-- it holds at the start, whatever the table is, and after each line that no refusal stops
pub record IsCarried (P : State → Type 0) : Type 0 where
  pub start : P first
  pub tables : (s : State) (table : FinMap pair_cmp (List Rule)) → P s → P (record s { table = table })
  pub lines : (s : State) (e : Event) → refusal s e ≡ None → P s → P (after s e)

-- it holds whatever the table is, and after each line of a kind that no refusal stops
module _ (P : State → Type 0) (Q : Event → Type 0) (tables : (s : State) (table : FinMap pair_cmp (List Rule)) → P s → P (record s { table = table }))
    (lines : (s : State) (e : Event) → Q e → refusal s e ≡ None → P s → P (after s e)) where
  next_holds : (s : State) (e : Event) (r : Reply) (h : Head) → P s → P (after s e) → P (next_by h s e r)
  next_holds s e r (Refused why) here later = here
  next_holds s e r Fine here later = tables (after s e) _ later
  next_holds s e r (Working units) here later = tables (after s e) _ later
  next_holds s e r Finished here later = tables (after s e) _ later
  next_holds s e r Unrouted here later = tables (after s e) _ later
  next_holds s e r (Unresolved ip) here later = tables (after s e) _ later
  next_holds s e r Silent here later = tables (after s e) _ later

  step_holds : (s : State) (e : Event) (r : Reply) (o : Option Refusal) → refusal s e ≡ o → FitsBy o s e r → Q e → P s → P (next s e r)
  step_holds s e r (Some why) stopped fits kind here = subst (λ x. P (next s e x)) (sym fits) here
  step_holds s e r None none fits kind here = next_holds s e r r.head here (lines s e kind none here)

  from_holds : (s : State) (es : List Event) (rs : List Reply) → ((e : Event) → Member e es → Q e) → P s → LegalFrom s es rs → P (state_from s es rs)
  from_holds s [] rs kinds here legal = here
  from_holds s (e ∷ es) [] kinds here legal = here
  from_holds s (e ∷ es) (r ∷ rs) kinds here legal = from_holds (next s e r) es rs (λ x m. kinds x (inr m)) (step_holds s e r (refusal s e) refl legal.0 (kinds e (inl refl)) here) legal.1

  -- so after a legal run of lines of this kind, where it holds at the start
  pub written_runs_hold : P first → (es : List Event) (rs : List Reply) → ((e : Event) → Member e es → Q e) → Legal es rs → P (state_after es rs)
  written_runs_hold start es rs kinds legal = from_holds first es rs kinds start legal

-- and after any legal run, where the kind of the lines doesn't count
pub runs_hold : (P : State → Type 0) → IsCarried P → (es : List Event) (rs : List Reply) → Legal es rs → P (state_after es rs)
runs_hold P is es rs legal = written_runs_hold P (λ e. Unit {0}) is.tables (λ s e kind. is.lines s e) is.start es rs (λ e m. tt) legal
