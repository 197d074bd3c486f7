use Rattle.std.proofs.Common.{◌≡◌, ◌≤◌, ◌+◌, length}
use Rattle.net_types.specs.Keys.{RouteKey}
use Rattle.route_server.specs.Listed.{AreListed}
use Rattle.route_server.specs.Served.{AreRows, route_in, route_after}
use Rattle.route_server.proofs.server.put_rows.Given as goal

abbrev pub invariant-loop-change : goal.invariant-loop-change
invariant-loop-change l = record {
  room : length l.fn.changes.items ≤ l.rows.room + length l.yielded;
  routes : (q : RouteKey) → route_in l.rows.map q ≡ route_after l.yielded (route_in l.fn.rows.map) q;
  rows : AreRows l.rows.map;
  listed : AreListed l.rows.map l.announced;
}
