use Rattle.route_server.proofs.UpdateLaws.{rows_after, changes_rise, all_there}
use Rattle.std.proofs.Common.{◌++◌}
use Rattle.route_server.proofs.update.update_changes.Goals as goal

pub returns-clause-rows : goal.returns-clause-rows
returns-clause-rows c = rows_after c.args.from c.args.update.now c.args.server.now.routes c.requires.sound c.in_ok-changes.changes.items c.sorted-changes.result.items c.sorted-changes.ensures.same c.in_ok-changes.ensures.edits

pub returns-clause-rising : goal.returns-clause-rising
returns-clause-rising c = changes_rise c.args.update.now.withdrawn c.args.update.now.announced c.in_ok-changes.changes.items c.sorted-changes.result.items c.sorted-changes.ensures.same c.sorted-changes.ensures.sorted c.in_ok-changes.ensures.prefixes
    c.requires.sound.withdrawn c.requires.sound.announced c.requires.sound.apart

pub returns-clause-all : goal.returns-clause-all
returns-clause-all c = all_there c.in_ok-changes.changes.items c.sorted-changes.result.items (c.args.update.now.withdrawn ++ c.args.update.now.announced) c.sorted-changes.ensures.same c.in_ok-changes.ensures.prefixes
