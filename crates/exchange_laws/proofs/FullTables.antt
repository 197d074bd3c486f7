-- Which replies fit a line that no refusal before stops: it is accepted, or the table would be full.
use Rattle.std.proofs.Common.{Bool, true, false, sym, subst, refl, inl, inr}
use Rattle.events.specs.Fits.{FitsBy, IsAccepted, IsFull, Passes, bare, is_building}
use Rattle.events.specs.State.{State, ArePolicies}
use Rattle.events.specs.declared.Event.{Event}
use Rattle.events.specs.declared.Head.TheVariants.{Refused}
use Rattle.events.specs.declared.Refusal.TheVariants.{TableFull}
use Rattle.events.specs.declared.Reply.{Reply}
use Rattle.exchange_laws.specs.Fitting.{AcceptedLinesFit, AreWithinCells, FullTablesAreRefused}

-- ---- accepted lines

pub passes_accepted : (b : Bool) (s : State) (e : Event) (r : Reply) → IsAccepted s e r → Passes b s e r
passes_accepted true s e r accepted = inl accepted
passes_accepted false s e r accepted = accepted

pub accepted_lines_fit : AcceptedLinesFit
accepted_lines_fit s e r none accepted = subst (λ o. FitsBy o s e r) (sym none) (passes_accepted (is_building e) s e r accepted)

-- ---- a full table

pub full_tables_are_refused : FullTablesAreRefused
full_tables_are_refused s e s0 r is_rebuilt rules is ps are within over =
    let reply : Reply = bare (Refused (TableFull rules s.capacity)) in
    let full : IsFull s e reply = record {
      rules = rules;
      head = refl;
      over = over;
      read = (ps, subst (λ x. ArePolicies x ps) (sym is.leaves) are);
      few = subst (λ x. AreWithinCells x rules) (sym is.leaves) within;
    } in
    subst (λ o. FitsBy o s e reply) (sym is.passes) (subst (λ b. Passes b s e reply) (sym is.building) (inr full))
