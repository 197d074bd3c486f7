use Rattle.policy_syntax.specs.Views.{policy_of}
use Rattle.policy_compile.proofs.ModsLemmas.{mods-decided}
use Rattle.policy_compile.proofs.width.has_wide_mods.Goals as goal

pub returns : goal.returns
returns c = mods-decided (policy_of c.args.tree.now) c.in_ok-found.found c.in_ok-found.ensures c.is_none.result c.is_none.ensures
