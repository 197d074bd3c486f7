use Rattle.std.proofs.Common.{◌≤◌, ◌≡◌, length}
use Rattle.grammar.specs.Tokens.{is_space}
use Rattle.grammar.specs.TextReading.{after_run}
use Rattle.text_fields.proofs.tokens.spaces.Given as goal

-- the spaces behind those so far are those of the whole
abbrev pub invariant-loop-left : goal.invariant-loop-left
invariant-loop-left l = record { reads : after_run is_space l.left ≡ after_run is_space l.rest; left_len : length l.left ≤ length l.rest }

abbrev pub decreases-loop-left : goal.decreases-loop-left
decreases-loop-left l = length l.left
