use Rattle.std.proofs.Common.{◌≡◌, ◌++◌, take, flat_map}
use Rattle.events.specs.Text.{tag_text}
use Rattle.replay_text.proofs.replies.push_tags.Given as goal

abbrev pub invariant-loop-change : goal.invariant-loop-change
invariant-loop-change l = l.text.items ≡ l.fn.text.items ++ flat_map tag_text (take l.change-index l.changes)
