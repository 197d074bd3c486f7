use Rattle.std.proofs.Common.{refl, length}
use Rattle.std.proofs.lemmas.Option.{slice_get_read}
use Rattle.route_server.proofs.ListedLaws.{look_at}
use Rattle.route_server.proofs.announced.is_at.Goals as goal

pub returns-in-Some-clause-there : goal.returns-in-Some-clause-there
returns-in-Some-clause-there c same =
    let h = c.in-Some.ensures.lookup in
    look_at c.args.row.now c.args.at c.args.from.0 c.in-Some.held.now (slice_get_read c.args.row.now (length c.args.row.now) c.args.at c.in-Some.held.now refl h.3.0 h.1) same
