use Rattle.std.proofs.Common.{◌||◌, nat_eq, sym, ap, ◌∙◌}
use Rattle.std.specs.List.{list_any}
use Rattle.std.proofs.lemmas.Bool.{eqb-true, false_from_ne_true}
use Rattle.net_types.specs.declared.address.Pid.{Pid}
use Rattle.prefix_classes.proofs.trimming.counts.Goals as goal

pub returns-else-who-best : goal.returns-else-who-best
returns-else-who-best c = c.is_named.ensures ∙ ap (λ b. b || list_any (λ (other : Pid). nat_eq other.0 c.args.who.0) c.args.named.now) (sym (false_from_ne_true (nat_eq c.args.who.0 c.args.best.0) (λ same. c.if-who-best.false (eqb-true c.args.who.0 c.args.best.0 same))))
