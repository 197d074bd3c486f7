use Rattle.std.proofs.Common.{sym, ap, ◌∙◌, inl, inr, subst}
use Rattle.std.specs.Prelude.{Some}
use Rattle.route_server.specs.Edits.{IsEdit}
use Rattle.route_server.proofs.UpdateLaws.{prefix_of_member}
use Rattle.net_types.specs.Sets.{Member}
use Rattle.route_server.proofs.update.edits.Goals as goal

pub returns-in_ok-all-in-Some-clause-edits : goal.returns-in_ok-all-in-Some-clause-edits
returns-in_ok-all-in-Some-clause-edits c = λ d m. elim (c.in_ok-all-in-Some.ensures.edits d m) [
  | inl k ↦ inl (c.in_ok-gone.ensures.edits d k, prefix_of_member c.in_ok-gone.gone.items c.args.update.now.withdrawn d (c.in_ok-gone.ensures.prefixes ∙ c.items.ensures) k)
  | inr k ↦ inr (subst (λ o. IsEdit c.args.server.now.routes c.args.from o d) (ap Some c.in_ok-shared-in-Some.ensures ∙ sym c.in-Some.is) k.0, subst (Member d.prefix) c.items-in-Some.ensures k.1)
]

pub returns-in-None-clause-edits : goal.returns-in-None-clause-edits
returns-in-None-clause-edits c = λ d k. inl (c.in_ok-gone.ensures.edits d k, prefix_of_member c.in_ok-gone.gone.items c.args.update.now.withdrawn d (c.in_ok-gone.ensures.prefixes ∙ c.items.ensures) k)
