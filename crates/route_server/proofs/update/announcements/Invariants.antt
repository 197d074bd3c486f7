use Rattle.std.proofs.Common.{◌≡◌, ◌++◌, take}
use Rattle.std.specs.Prelude.{Some, ◌⊎◌}
use Rattle.net_types.specs.Sets.{Member}
use Rattle.route_server.specs.Edits.{IsEdit, prefixes_of}
use Rattle.route_server.specs.declared.change.Change.{Change}
use Rattle.route_server.proofs.update.announcements.Given as goal

abbrev pub invariant-loop-prefix : goal.invariant-loop-prefix
invariant-loop-prefix l = record {
  prefixes : prefixes_of l.changes.items ≡ prefixes_of l.fn.earlier.items ++ take l.prefix-index l.here;
  edits : (c : Change) → Member c l.changes.items → Member c l.fn.earlier.items ⊎ (IsEdit l.server.routes l.from (Some l.attrs) c × Member c.prefix l.here);
}
