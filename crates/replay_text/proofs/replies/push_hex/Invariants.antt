use Rattle.std.proofs.Common.{◌≡◌, ◌++◌, length}
use Rattle.events.specs.Text.{hex_text}
use Rattle.replay_text.proofs.replies.push_hex.Given as goal

-- what is written, and what is still to be written
abbrev pub invariant-loop-rest : goal.invariant-loop-rest
invariant-loop-rest l = l.text.items ++ hex_text l.rest ≡ l.fn.text.items ++ hex_text l.octets

abbrev pub decreases-loop-rest : goal.decreases-loop-rest
decreases-loop-rest l = length l.rest
