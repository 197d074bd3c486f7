use Rattle.route_server.proofs.UpdateLaws.{updated_declared}
use Rattle.route_server.proofs.server.RouteServer.propose_update.Goals as goal

pub returns-in-Some-clause-declared : goal.returns-in-Some-clause-declared
returns-in-Some-clause-declared c = updated_declared c.args.names.now c.args.from c.args.update.now c.args.self.now.routes c.requires.known c.requires.declared

pub returns-in-Ok-clause-declared : goal.returns-in-Ok-clause-declared
returns-in-Ok-clause-declared c = updated_declared c.args.names.now c.args.from c.args.update.now c.args.self.now.routes c.requires.known c.requires.declared

pub returns-in-Err-clause-declared : goal.returns-in-Err-clause-declared
returns-in-Err-clause-declared c = updated_declared c.args.names.now c.args.from c.args.update.now c.args.self.now.routes c.requires.known c.requires.declared
