-- So many were added.
use Rattle.std.proofs.Common.{◌≡◌, length}
use Rattle.table_cases.proofs.policies.Policies.views.Given as goal

abbrev pub invariant-loop-inbound : goal.invariant-loop-inbound
invariant-loop-inbound l = length l.views ≡ l.inbound-index
