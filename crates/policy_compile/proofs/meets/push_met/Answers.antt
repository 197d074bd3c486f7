use Rattle.std.proofs.Common.{sym, ap, ◌∙◌}
use Rattle.net_types.specs.Meets.{add_found}
use Rattle.policy_compile.proofs.SetsLemmas.{insert_found}
use Rattle.policy_compile.proofs.meets.push_met.Goals as goal

pub returns-in_ok-insert : goal.returns-in_ok-insert
returns-in_ok-insert c = c.in_ok-insert.ensures.keys ∙ insert_found c.args.kept.now.keys c.in-Some.cube ∙ ap (add_found c.args.kept.now.keys) (sym c.in-Some.is)
