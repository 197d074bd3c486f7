use Rattle.std.proofs.Common.{◌≡◌, ◌++◌, length}
use Rattle.events.specs.Text.{reply_text}
use Rattle.replay_text.proofs.reply_text.write_reply.Given as goal

-- what is written, and what is still to come
abbrev pub invariant-loop-text : goal.invariant-loop-text
invariant-loop-text l = reply_text l.number l.event l.reply ≡ l.text.items ++ l.left

abbrev pub decreases-loop-text : goal.decreases-loop-text
decreases-loop-text l = length l.left
