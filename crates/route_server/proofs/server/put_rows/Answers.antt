use Rattle.std.proofs.Common.{arith, ◌∷◌, [], length-append}
use Rattle.route_server.specs.Served.{route_in}
use Rattle.route_server.proofs.ServedLaws.{put_more}
use Rattle.route_server.proofs.server.put_rows.Goals as goal

pub loop-change-preserved : goal.loop-change-preserved
loop-change-preserved c = record {
  room = let a = c.loop-change.invariant.room in let b = c.put_row.ensures.room in let n = length-append c.loop-change.yielded (c.in-Some.change ∷ []) in omega (arith, a, b, n);
  routes = put_more c.loop-change.yielded c.in-Some.change (route_in c.args.rows.now.map) (route_in c.loop-change.rows.map) (route_in c.put_row.new.rows.map) c.loop-change.invariant.routes c.put_row.ensures.routes;
  rows = c.put_row.ensures.rows;
  listed = c.put_row.ensures.listed;
}
