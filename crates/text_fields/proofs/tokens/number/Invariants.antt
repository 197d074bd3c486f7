use Rattle.std.proofs.Common.{◌<◌, ◌≡◌, ◌≤◌, length}
use Rattle.grammar.specs.TokenReading.{digits_from}
use Rattle.text_fields.proofs.tokens.number.Given as goal

-- the digits behind those so far make the same number
abbrev pub invariant-loop-left : goal.invariant-loop-left
invariant-loop-left l = record { small : l.value ≤ l.high; same : digits_from l.high l.value l.left ≡ digits_from l.high l.initial.value l.initial.left; left_len : length l.left < length l.rest }

abbrev pub decreases-loop-left : goal.decreases-loop-left
decreases-loop-left l = length l.left
