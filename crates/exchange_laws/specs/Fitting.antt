-- Which replies fit a line that no refusal before stops (this exchange's own rule).
use Rattle.std.specs.Prelude.{◌≡◌, ℕ, ◌<◌, ◌≤◌, Bool, None, sum_by}
use Rattle.events.specs.Fits.{Fits, IsAccepted, bare, cells}
use Rattle.events.specs.Refusals.{refusal}
use Rattle.events.specs.State.{State, ArePolicies}
use Rattle.events.specs.Tags.{live_pairs, retagged}
use Rattle.events.specs.declared.Event.{Event}
use Rattle.events.specs.declared.Head.TheVariants.{Refused}
use Rattle.events.specs.declared.Refusal.TheVariants.{TableFull}
use Rattle.events.specs.declared.Reply.{Reply}
use Rattle.exchange_laws.specs.Editing.{IsEdit}
use Rattle.net_types.specs.Answers.{Policies}
use Rattle.net_types.specs.Exports.{Routing}
use Rattle.net_types.specs.declared.rule.Pair.{Pair}

-- the reply by which such a line is accepted fits
abbrev pub AcceptedLinesFit : Type 0
AcceptedLinesFit = (s : State) (e : Event) (r : Reply) → refusal s e ≡ None → IsAccepted s e r → Fits s e r

-- so many rules are no more than the live pairs of a state may have, by all policies that its texts are read as
abbrev pub AreWithinCells : State → ℕ → Type 0
AreWithinCells s rules = (ps : Policies) → ArePolicies s ps → rules ≤ sum_by (cells ps s) (live_pairs s)

-- where a line that builds rules would leave more than the table has room for, though no more than the cells, it is refused
abbrev pub FullTablesAreRefused : Type 0
FullTablesAreRefused =
    (s : State) (e : Event) (s0 : State) (r : Routing) (is_rebuilt : Pair → Bool) (rules : ℕ) → IsEdit s e s0 r is_rebuilt → (ps : Policies) → ArePolicies (retagged s0 r) ps
    → AreWithinCells (retagged s0 r) rules → s.capacity < rules → Fits s e (bare (Refused (TableFull rules s.capacity)))
