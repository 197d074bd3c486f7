use Rattle.std.specs.Prelude.{None}
use Rattle.std.proofs.Common.{[]}
use Rattle.route_server.specs.Edits.{IsEdit}
use Rattle.route_server.proofs.UpdateLaws.{edits_push, prefixes_push}
use Rattle.route_server.proofs.update.withdrawals.Goals as goal

pub loop-prefix-preserved : goal.loop-prefix-preserved
loop-prefix-preserved c = record {
  prefixes = prefixes_push c.loop-prefix.changes.items c.push.new.self.items c.in_ok-change.change [] c.args.gone.now c.loop-prefix.prefix-index c.prefix-item.result
      c.in_ok-push.ensures.items c.in_ok-change.ensures.prefix c.loop-prefix-test.true c.prefix-item.is c.loop-prefix.invariant.prefixes;
  edits = edits_push (IsEdit c.args.server.now.routes c.args.from None) c.loop-prefix.changes.items c.push.new.self.items c.in_ok-change.change
      c.in_ok-push.ensures.items c.loop-prefix.invariant.edits c.in_ok-change.ensures.edit;
}
