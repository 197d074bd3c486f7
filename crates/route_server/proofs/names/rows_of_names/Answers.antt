use Rattle.route_server.proofs.ExportLaws.{kept_rows}
use Rattle.route_server.proofs.names.rows_of_names.Goals as goal

pub returns-clause-rows : goal.returns-clause-rows
returns-clause-rows c = kept_rows c.args.server.now.routes c.in_ok-changes.changes.items c.in_ok-changes.ensures.rows
