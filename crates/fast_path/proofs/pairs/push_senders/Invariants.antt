use Rattle.std.proofs.Common.{◌≡◌, ◌++◌, drop}
use Rattle.net_types.specs.Sets.{union_over}
use Rattle.fast_path.specs.Pairs.{sender_pairs}
use Rattle.fast_path.proofs.pairs.push_senders.Given as goal

-- with those of the rest they are all
abbrev pub invariant-loop-part : goal.invariant-loop-part
invariant-loop-part l = l.pairs.items ++ union_over (sender_pairs l.names l.tag) (drop l.part-index l.parts) ≡ l.initial.pairs.items ++ union_over (sender_pairs l.names l.tag) l.parts
