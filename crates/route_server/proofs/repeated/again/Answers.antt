use Rattle.std.proofs.Common.{subst}
use Rattle.route_server.specs.Repeated.{AreAlike}
use Rattle.route_server.specs.Rows.{settled_by}
use Rattle.route_server.proofs.RepeatLaws.{effect_again}
use Rattle.route_server.proofs.repeated.again.Goals as goal

pub returns : goal.returns
returns c =
    let done = c.args.done.now in
    effect_again (settled_by c.args.before) (settled_by c.args.after) (λ who. c.requires.done.before who.0) (λ who. c.requires.done.after who.0)
    done.old.now c.args.old.now done.change.now c.args.change.now done.at c.args.at done.effect c.in_ok-effect.effect c.requires.same.0 c.requires.same.1 (subst (λ e. AreAlike c.args.at c.args.change.now.prefix e c.in_ok-effect.effect) c.as_ref.ensures.value c.in_ok-effect.ensures) c.requires.done.effect
