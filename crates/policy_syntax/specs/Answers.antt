-- What a function of the program answered, beside what reading gives, and why a text is refused.
use Rattle.std.specs.Prelude.{◌≡◌, ℕ, ◌≤◌, ◌<◌, List, length, Result, MatchResult}
use Rattle.grammar.specs.Reading as reading
use Rattle.grammar.specs.Reading.{Cause, Met, OutOfMemory, Unread}
use Rattle.grammar.specs.TextReading.{Fault, Wrong, Deep}
use Rattle.grammar.specs.Texts.{IsSyntaxFault, IsDeepFault}
use Rattle.net_types.specs.Policies.{Policy}
use Rattle.policy_syntax.specs.declared.fault.SyntaxFault.{SyntaxFault}
use Rattle.policy_syntax.specs.declared.fault.SyntaxFault.TheVariants.{TextLong, Syntax, TooDeep, Memory}
use Rattle.net_types.specs.PolicyGrammar.{policy}

-- what a fault says of a reading
abbrev pub cause_of : SyntaxFault → Cause Fault
cause_of TextLong = Unread
cause_of (Syntax at) = Met (Wrong at)
cause_of (TooDeep at) = Met (Deep at)
cause_of Memory = OutOfMemory

-- the fault is that of the reading, unless memory ran out
abbrev pub Fails : {Y : Type 0} → SyntaxFault → Result Y Fault → Type 0
Fails fault read = reading.Tells (cause_of fault) read

-- what was answered, seen by view, is what reading gives, unless memory ran out
abbrev pub Gives : {X Y : Type 0} → (X → Y) → Result X SyntaxFault → Result Y Fault → Type 0
Gives view result read = reading.Gives cause_of view result read

-- why a text was refused that may have so many octets and so many groups open at once; nothing is said of memory
abbrev pub IsCause : ℕ → ℕ → List ℕ → SyntaxFault → Type 0
IsCause max_len max_depth text TextLong = max_len < length text
IsCause max_len max_depth text (Syntax at) = (length text ≤ max_len) × IsSyntaxFault policy max_depth text at
IsCause max_len max_depth text (TooDeep at) = (length text ≤ max_len) × IsDeepFault policy max_depth text at
IsCause max_len max_depth text Memory = Unit {0}

-- a text that is short enough and spells a policy is answered with it, unless memory ran out
abbrev pub FindsText : {X : Type 0} → ℕ → ℕ → List ℕ → (X → Policy) → Result X SyntaxFault → Type 0
FindsText max_len max_depth text view result =
    length text ≤ max_len → (p : Policy) → (policy max_depth).Spells 0 text p → MatchResult result (λ x. view x ≡ p) (λ fault. fault ≡ Memory)
