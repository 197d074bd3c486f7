use Rattle.std.proofs.Common.{◌≡◌, take}
use Rattle.exchange_core.specs.Resolved.{missing_hops}
use Rattle.exchange_core.proofs.next_hops.missing_hops.Given as goal

abbrev pub invariant-loop-tag : goal.invariant-loop-tag
invariant-loop-tag l = l.ips.items ≡ missing_hops l.base l.resolved (take l.tag-index l.tags)
