use Rattle.std.proofs.Common.{◌∙◌}
use Rattle.route_server.specs.Rows.{settled_by}
use Rattle.route_server.proofs.ServedLaws.{signature_of_row, settled_is}
use Rattle.route_server.proofs.server.RouteServer.signature.Goals as goal

pub returns : goal.returns
returns c = c.in_ok-sig.ensures ∙ signature_of_row c.args.names.now c.args.self.now (settled_by c.terms-terms.result) c.row-row.result.now c.args.prefix (settled_is c.terms-terms.result c.args.names.now c.args.self.now.rules c.args.self.now.named c.terms-terms.ensures.names c.terms-terms.ensures.rules c.terms-terms.ensures.named) c.row-row.ensures.rising c.row-row.ensures.routes c.requires.declared
