-- The texts of export rules (this exchange's own language): what they spell, what they begin, and which rules they are
-- among declared participants. A text has at most 8192 octets.
use Rattle.std.specs.Prelude.{ℕ, Bool, true, false, Option, Some, None, List, [], ◌∷◌, ◌++◌, codes}
use Rattle.grammar.specs.Rules.{Rule, pure, ◌>>=◌, ◌>>◌, either, maybe, many, word}
use Rattle.grammar.specs.Tokens.{spaces, gap, sign, name}
use Rattle.grammar.specs.Texts.{IsPlainText, IsPlainFault}
use Rattle.net_types.specs.declared.address.Pid.{Pid}
use Rattle.net_types.specs.declared.prefix.Prefix.{Prefix}
use Rattle.net_types.specs.declared.export.Which.{Which}
use Rattle.net_types.specs.declared.export.Which.TheVariants.{Every, Exactly, Within}
use Rattle.net_types.specs.declared.export.ExportRule.{ExportRule}
use Rattle.net_types.specs.declared.named_rule.NamedRule.{NamedRule}
use Rattle.net_types.specs.PolicyGrammar.{prefix}

-- ---- the grammar

-- allow or deny
abbrev pub verdict : Rule Bool
verdict = either (do word (codes "allow"); pure true) (do word (codes "deny"); pure false)

-- every participant, or the one of a name
abbrev pub receiver : Rule (Option (List ℕ))
receiver = either (do word (codes "*"); pure None) (do n ← name; pure (Some n))

-- behind a prefix, all that lies within it too, or the prefix alone
abbrev pub reach : Prefix → Rule Which
reach p = maybe (Exactly p) (do word (codes "+"); pure (Within p))

-- every prefix, or one
abbrev pub about : Rule Which
about = either (do word (codes "*"); pure Every) (do p ← prefix; reach p)

-- a rule of these parts
abbrev pub named : Bool → Option (List ℕ) → Which → NamedRule
named allow who which = record { allow = allow; who = who; which = which }

-- a rule and the spaces behind it; at least one space stands between its parts
abbrev pub rule : Rule NamedRule
rule = do
  allow ← verdict
  gap
  who ← receiver
  gap
  which ← about
  spaces
  pure (named allow who which)

-- a further rule
abbrev pub more_rule : Rule NamedRule
more_rule = do
  sign (codes ";")
  rule

-- behind those before it
abbrev pub put_last : List NamedRule → NamedRule → List NamedRule
put_last rs r = rs ++ r ∷ []

-- a whole text
abbrev pub rules : Rule (List NamedRule)
rules = do
  spaces
  first ← rule
  many put_last more_rule (first ∷ [])

-- ---- texts

-- the text spells the rules, and no others
abbrev pub RulesText : List ℕ → List NamedRule → Type 0
RulesText text rs = IsPlainText rules text rs

-- the text spells no rules, and so many octets of it are its longest front that begins some
abbrev pub IsWrongRulesAt : List ℕ → ℕ → Type 0
IsWrongRulesAt text n = IsPlainFault rules text n

-- ---- names

-- a rule about a participant, where its name is declared
abbrev pub bound_to : Bool → Which → Option Pid → Option ExportRule
bound_to allow which None = None
bound_to allow which (Some pid) = Some (record { allow = allow; who = Some pid; which = which })

-- a rule with the participant of its name
abbrev pub bound_who : (List ℕ → Option Pid) → Bool → Which → Option (List ℕ) → Option ExportRule
bound_who pid_of allow which None = Some (record { allow = allow; who = None; which = which })
bound_who pid_of allow which (Some name) = bound_to allow which (pid_of name)

abbrev pub bound_rule : (List ℕ → Option Pid) → NamedRule → Option ExportRule
bound_rule pid_of r = bound_who pid_of r.allow r.which r.who

-- one rule before others, where all are there
abbrev pub bound_before : Option ExportRule → Option (List ExportRule) → Option (List ExportRule)
bound_before None rs = None
bound_before (Some r) None = None
bound_before (Some r) (Some rs) = Some (r ∷ rs)

-- rules with the participants of their names; none where a name isn't declared
abbrev pub bound : (List ℕ → Option Pid) → List NamedRule → Option (List ExportRule)
bound pid_of [] = Some []
bound pid_of (r ∷ rs) = bound_before (bound_rule pid_of r) (bound pid_of rs)
