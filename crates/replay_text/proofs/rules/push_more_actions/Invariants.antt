use Rattle.std.proofs.Common.{◌≡◌, ◌++◌, take}
use Rattle.replay_text.specs.Fields.{more_text}
use Rattle.replay_text.proofs.rules.push_more_actions.Given as goal

abbrev pub invariant-loop-action : goal.invariant-loop-action
invariant-loop-action l = l.text.items ≡ l.fn.text.items ++ more_text (take l.action-index l.actions)
