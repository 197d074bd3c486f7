use Rattle.std.proofs.Common.{sym, ◌∙◌}
use Rattle.route_server.proofs.UpdateLaws.{same_attributes}
use Rattle.route_server.proofs.update.same_in.Goals as goal

pub returns-then-same_attrs : goal.returns-then-same_attrs
returns-then-same_attrs c = sym c.get.ensures ∙ same_attributes c.get.result.now c.args.attrs.now (sym c.same_attrs.ensures ∙ c.if-same_attrs.true)
