use Rattle.std.proofs.Common.{◌≡◌, ◌++◌, ◌-◌, ◌<◌, ◌≤◌, length}
use Rattle.replay_text.specs.ReplyTexts.{rules_from}
use Rattle.replay_text.proofs.reply_text.push_rules.Given as goal

-- the rules before the next one are written
abbrev pub invariant-loop-next : goal.invariant-loop-next
invariant-loop-next l = record {
  written : l.text.items ++ rules_from l.event l.flows l.next ≡ l.fn.text.items ++ rules_from l.event l.flows l.from;
  from : l.from ≤ l.next;
  more : l.from < l.next → length (l.fn.text.items) < length (l.text.items);
  none : length (l.fn.text.items) ≤ length (l.text.items);
}

abbrev pub decreases-loop-next : goal.decreases-loop-next
decreases-loop-next l = length l.flows - l.next
