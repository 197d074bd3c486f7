use Rattle.std.specs.Prelude.{Some, ◌⊎◌}
use Rattle.std.proofs.Common.{inr}
use Rattle.net_types.specs.Sets.{Member}
use Rattle.route_server.specs.Edits.{IsEdit, prefixes_of}
use Rattle.route_server.specs.declared.change.Change.{Change}
use Rattle.route_server.proofs.UpdateLaws.{edits_push, prefixes_push, member_at}
use Rattle.route_server.proofs.update.announcements.Goals as goal

pub loop-prefix-preserved : goal.loop-prefix-preserved
loop-prefix-preserved c = record {
  prefixes = prefixes_push c.loop-prefix.changes.items c.push.new.self.items c.in_ok-change.change (prefixes_of c.args.earlier.items) c.args.here.now c.loop-prefix.prefix-index c.prefix-item.result
      c.in_ok-push.ensures.items c.in_ok-change.ensures.prefix c.loop-prefix-test.true c.prefix-item.is c.loop-prefix.invariant.prefixes;
  edits = edits_push (λ (d : Change). Member d c.args.earlier.items ⊎ (IsEdit c.args.server.now.routes c.args.from (Some c.args.attrs.now) d × Member d.prefix c.args.here.now)) c.loop-prefix.changes.items c.push.new.self.items c.in_ok-change.change
      c.in_ok-push.ensures.items c.loop-prefix.invariant.edits
      (inr (c.in_ok-change.ensures.edit, member_at c.args.here.now c.loop-prefix.prefix-index c.prefix-item.result c.in_ok-change.change.prefix c.loop-prefix-test.true c.prefix-item.is c.in_ok-change.ensures.prefix));
}
