-- What a function of the program answered, beside what reading gives, and why a text is refused.
use Rattle.std.specs.Prelude.{◌≡◌, ℕ, ◌≤◌, ◌<◌, List, length, Result, MatchResult}
use Rattle.grammar.specs.Reading as reading
use Rattle.grammar.specs.Reading.{Cause, Met, OutOfMemory, Unread}
use Rattle.grammar.specs.TextReading.{Fault, Wrong}
use Rattle.net_types.specs.declared.named_rule.NamedRule.{NamedRule}
use Rattle.net_types.specs.ExportTexts.{rules, IsWrongRulesAt}
use Rattle.export_rules.specs.declared.fault.RulesFault.{RulesFault}
use Rattle.export_rules.specs.declared.fault.RulesFault.TheVariants.{TextLong, Syntax, Memory}

-- what a fault says of a reading
abbrev pub cause_of : RulesFault → Cause Fault
cause_of TextLong = Unread
cause_of (Syntax at) = Met (Wrong at)
cause_of Memory = OutOfMemory

-- what was answered, seen by view, is what reading gives, unless memory ran out
abbrev pub Gives : {X Y : Type 0} → (X → Y) → Result X RulesFault → Result Y Fault → Type 0
Gives view result read = reading.Gives cause_of view result read

-- why a text of at most so many octets was refused; nothing is said of memory
abbrev pub IsCause : ℕ → List ℕ → RulesFault → Type 0
IsCause max_len text TextLong = max_len < length text
IsCause max_len text (Syntax at) = (length text ≤ max_len) × IsWrongRulesAt text at
IsCause max_len text Memory = Unit {0}

-- rules that a text spells which is short enough are answered, unless memory ran out
abbrev pub FindsRules : ℕ → List ℕ → Result (List NamedRule) RulesFault → Type 0
FindsRules max_len text result =
    length text ≤ max_len → (rs : List NamedRule) → rules.Spells 0 text rs → MatchResult result (λ x. x ≡ rs) (λ fault. fault ≡ Memory)
