use Rattle.std.proofs.Common.{◌≡◌, ◌++◌, take, flat_map}
use Rattle.events.specs.Text.{exchange_text}
use Rattle.replay_text.proofs.replies.push_exchanges.Given as goal

abbrev pub invariant-loop-exchange : goal.invariant-loop-exchange
invariant-loop-exchange l = l.text.items ≡ l.fn.text.items ++ flat_map exchange_text (take l.exchange-index l.exchanges)
