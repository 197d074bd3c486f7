-- The first fault in the order of the tree is the first in the text.
use Rattle.std.proofs.Common.{◌≡◌}
use Rattle.policy_syntax.specs.Views.{policy_of}
use Rattle.net_types.specs.Isolation.{first_of, in_faults}
use Rattle.policy_isolate.proofs.InText.{in_first}
use Rattle.policy_isolate.proofs.inbound.+inbound.Goals as goal

pub check_in-returns-clause-first : goal.check_in-returns-clause-first
check_in-returns-clause-first g t c text sp =
    let e : c.passed.result ≡ first_of (in_faults (g.N.Names.owner_of c.args.names.now) c.args.me (policy_of c.args.tree.now)) = cc (c.passed.ensures, c.node.ensures) in
    in_first (g.N.Names.owner_of c.args.names.now) c.args.me (policy_of c.args.tree.now) c.passed.result e text sp
