use Rattle.std.proofs.Common.{◌≡◌, take}
use Rattle.std.specs.Prelude.{None}
use Rattle.net_types.specs.Sets.{Member}
use Rattle.route_server.specs.Edits.{IsEdit, prefixes_of}
use Rattle.route_server.specs.declared.change.Change.{Change}
use Rattle.route_server.proofs.update.withdrawals.Given as goal

abbrev pub invariant-loop-prefix : goal.invariant-loop-prefix
invariant-loop-prefix l = record {
  prefixes : prefixes_of l.changes.items ≡ take l.prefix-index l.gone;
  edits : (c : Change) → Member c l.changes.items → IsEdit l.server.routes l.from None c;
}
