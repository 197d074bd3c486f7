use Rattle.net_types.proofs.SetLemmas
use Rattle.net_types.specs.Meets.{behind}
use Rattle.net_types.specs.Policies.{mods}
use Rattle.net_types.specs.Sets.{SameMembers}
use Rattle.std.proofs.Common.{subst}
use Rattle.policy_syntax.specs.Views.{policy_of}
use Rattle.policy_compile.proofs.atoms.chain_of.Goals as goal

pub returns : goal.returns
returns c =
    let far = subst (λ xs. SameMembers c.in_ok-behind.behind.keys (behind (mods (policy_of c.args.tree.now)) xs)) c.as_slice.ensures.keys c.in_ok-behind.ensures in
    SetLemmas.same_trans c.in_ok-whole.ensures (SetLemmas.same_append (SetLemmas.same_refl c.args.first.keys) far)
