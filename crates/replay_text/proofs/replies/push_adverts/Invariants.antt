use Rattle.std.proofs.Common.{◌≡◌, ◌++◌, take, flat_map}
use Rattle.events.specs.Text.{advert_text}
use Rattle.replay_text.proofs.replies.push_adverts.Given as goal

abbrev pub invariant-loop-message : goal.invariant-loop-message
invariant-loop-message l = l.text.items ≡ l.fn.text.items ++ flat_map advert_text (take l.message-index l.messages)
