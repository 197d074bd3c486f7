-- What a function of this crate answers, beside what reading gives.
use Rattle.std.specs.Prelude.{Result}
use Rattle.grammar.specs.Reading as reading
use Rattle.grammar.specs.Reading.{Cause, Met}
use Rattle.grammar.specs.TextReading.{Fault, Wrong}
use Rattle.text_fields.specs.declared.fault.WrongOctet.{WrongOctet}

-- the reading met an octet with which no text goes on
abbrev pub cause_of : WrongOctet → Cause Fault
cause_of e = Met (Wrong e.at)

-- what was answered, seen by view, is what reading gives
abbrev pub Gives : {X Y : Type 0} → (X → Y) → Result X WrongOctet → Result Y Fault → Type 0
Gives view result read = reading.Gives cause_of view result read
