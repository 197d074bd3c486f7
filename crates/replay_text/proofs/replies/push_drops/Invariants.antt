use Rattle.std.proofs.Common.{◌≡◌, ◌++◌, take, flat_map}
use Rattle.events.specs.Text.{drop_text}
use Rattle.replay_text.proofs.replies.push_drops.Given as goal

abbrev pub invariant-loop-pair : goal.invariant-loop-pair
invariant-loop-pair l = l.text.items ≡ l.fn.text.items ++ flat_map drop_text (take l.pair-index l.pairs)
