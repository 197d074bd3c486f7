-- What is read of the texts of policies, and why they are refused (this exchange's own rule).
use Rattle.std.specs.Prelude.{◌≡◌, ℕ, nat_lt, List, length, Result, Ok, Err, if◌then◌else◌}
use Rattle.grammar.specs.TextReading.{Fault as Misread}
use Rattle.events.specs.Refusals.{misread_refusal}
use Rattle.events.specs.declared.Refusal.{Refusal}
use Rattle.events.specs.declared.Refusal.TheVariants.{TextLong}
use Rattle.net_types.specs.Policies.{Policy}
use Rattle.net_types.specs.PolicyReading.{policy_of_text}
use Rattle.policy_syntax.specs.Views.{policy_of}
use Rattle.policy_syntax.specs.declared.tree.Tree.{Tree}
use Rattle.exchange_core.specs.declared.stop.Stop.{Stop}
use Rattle.exchange_core.specs.declared.stop.Stop.TheVariants.{Refused, Memory}

-- a policy that was read, or the refusal of a text that is none
abbrev pub or_misread : Result Policy Misread → Result Policy Refusal
or_misread (Ok p) = Ok p
or_misread (Err fault) = Err (misread_refusal fault)

-- the policy of a text, or why the text is refused
abbrev pub policy_or_refusal : List ℕ → Result Policy Refusal
policy_or_refusal text = if nat_lt 8192 (length text) then Err TextLong else or_misread (policy_of_text text)

-- the text was read as the tree, or is refused so, unless memory ran out
abbrev pub HasRead : List ℕ → Result Tree Stop → Type 0
HasRead text (Ok tree) = policy_or_refusal text ≡ Ok (policy_of tree)
HasRead text (Err (Refused why)) = policy_or_refusal text ≡ Err why
HasRead text (Err Memory) = Unit {0}
