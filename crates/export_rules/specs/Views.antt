-- The program's rules whose names are slices of a text as the rules of the definitions.
use Rattle.std.specs.Prelude.{ℕ, Option, Some, None, List}
use Rattle.std.specs.Borrow.{Bor}
use Rattle.net_types.specs.declared.named_rule.NamedRule.{NamedRule}
use Rattle.net_types.specs.ExportTexts.{named}
use Rattle.export_rules.specs.declared.reading.Written.{Written}

-- a name is the octets of its slice
abbrev pub receiver_of : Option (Bor (List ℕ)) → Option (List ℕ)
receiver_of None = None
receiver_of (Some name) = Some name.now

-- a rule
abbrev pub rule_of : Written → NamedRule
rule_of w = named w.allow (receiver_of w.who) w.which
