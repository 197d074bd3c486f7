use Rattle.std.proofs.Common.{◌≡◌, take}
use Rattle.net_types.specs.Sets.{Member}
use Rattle.route_server.specs.Edits.{IsKept, prefixes_of}
use Rattle.route_server.specs.declared.change.Change.{Change}
use Rattle.route_server.proofs.export.all_kept.Given as goal

abbrev pub invariant-loop-prefix : goal.invariant-loop-prefix
invariant-loop-prefix l = record {
  prefixes : prefixes_of l.changes.items ≡ take l.prefix-index l.prefixes;
  rows : (c : Change) → Member c l.changes.items → IsKept l.server.routes c;
}
