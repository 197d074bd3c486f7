-- Lines that change the routes: who may send them, and what they ask for (this exchange's own rule).
use Rattle.std.specs.Prelude.{◌≡◌, true, nat_lt, List, length, ℕ, Option, Some, None, Result, Ok, Err, if◌then◌else◌}
use Rattle.net_types.specs.Exports.{Routing, pid_of}
use Rattle.net_types.specs.ExportReading.{rules_of_text}
use Rattle.net_types.specs.ExportTexts.{bound}
use Rattle.net_types.specs.declared.address.Pid.{Pid}
use Rattle.net_types.specs.declared.export.ExportRule.{ExportRule}
use Rattle.net_types.specs.declared.named_rule.NamedRule.{NamedRule}
use Rattle.events.specs.After.{after}
use Rattle.exchange_laws.specs.Rerouting.{is_rerouting}
use Rattle.events.specs.Refusals.{refusal, tags_refusal}
use Rattle.events.specs.State.{State}
use Rattle.events.specs.Tags.{retagged}
use Rattle.events.specs.declared.Event.{Event}
use Rattle.events.specs.declared.Refusal.{Refusal}
use Rattle.events.specs.declared.Refusal.TheVariants.{Syntax, TextLong, Unknown}
use Rattle.exchange_laws.specs.Rules.{IsDeclaredAlike}
use Rattle.route_server.specs.Proposed.{IsProposal, Proposed}
use Rattle.exchange_core.specs.Placed.{is_declared}

-- the sender is declared under the name, and the line is in place
pub record IsSender (s : State) (name : List ℕ) (who : Pid) : Type 0 where
  pub ready : is_declared s.phase ≡ true
  pub known : pid_of s.routing name ≡ Some who

-- The line would leave this routing, refused at most for want of tags or rules, and the proposal is for it.
pub record Reroutes (s : State) (e : Event) (r : Routing) (p : Proposed) : Type 0 where
  pub building : is_rerouting e ≡ true
  pub refuses : refusal s e ≡ tags_refusal s r
  pub leaves : after s e ≡ retagged s r
  pub alike : IsDeclaredAlike s.routing r
  pub proposes : IsProposal s.routing r p
  pub unnamed : p.named ≡ None

-- rules that are bound, or a name in them isn't declared
abbrev pub bound_or : Option (List ExportRule) → Result (List ExportRule) Refusal
bound_or None = Err Unknown
bound_or (Some rules) = Ok rules

-- what was read of a text, bound
abbrev pub read_or : Routing → Result (List NamedRule) ℕ → Result (List ExportRule) Refusal
read_or r (Err at) = Err (Syntax at)
read_or r (Ok rules) = bound_or (bound (pid_of r) rules)

-- the rules of a text, or why it is refused
abbrev pub rules_or_refusal : Routing → List ℕ → Result (List ExportRule) Refusal
rules_or_refusal r text = if nat_lt 8192 (length text) then Err TextLong else read_or r (rules_of_text text)
