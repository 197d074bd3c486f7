use Rattle.std.proofs.Common.{[]}
use Rattle.route_server.specs.Edits.{IsKept}
use Rattle.route_server.proofs.UpdateLaws.{edits_push, prefixes_push}
use Rattle.route_server.proofs.export.all_kept.Goals as goal

pub loop-prefix-preserved : goal.loop-prefix-preserved
loop-prefix-preserved c = record {
  prefixes = prefixes_push c.loop-prefix.changes.items c.push.new.self.items c.in_ok-change.change [] c.args.prefixes.now c.loop-prefix.prefix-index c.prefix-item.result
      c.in_ok-push.ensures.items c.in_ok-change.ensures.prefix c.loop-prefix-test.true c.prefix-item.is c.loop-prefix.invariant.prefixes;
  rows = edits_push (IsKept c.args.server.now.routes) c.loop-prefix.changes.items c.push.new.self.items c.in_ok-change.change
      c.in_ok-push.ensures.items c.loop-prefix.invariant.rows c.in_ok-change.ensures.row;
}
