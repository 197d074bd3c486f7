use Rattle.std.proofs.Common.{sym, ◌∙◌}
use Rattle.route_server.proofs.ChoiceLaws.{known_stays}
use Rattle.route_server.proofs.effects.stays.Goals as goal

pub returns-then-same_places : goal.returns-then-same_places
returns-then-same_places c = known_stays c.args.old.now c.args.new.now c.args.known.old c.args.known.new c.args.at.old c.args.at.new (sym c.same_places.ensures ∙ c.if-same_places.true) c.requires
