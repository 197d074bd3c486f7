-- The first fault in the order of the tree is the first in the text.
use Rattle.std.proofs.Common.{◌≡◌}
use Rattle.policy_syntax.specs.Views.{policy_of}
use Rattle.net_types.specs.Isolation.{first_of, out_faults}
use Rattle.policy_isolate.proofs.InText.{out_first}
use Rattle.policy_isolate.proofs.outbound.+outbound.Goals as goal

pub check_out-returns-clause-first : goal.check_out-returns-clause-first
check_out-returns-clause-first g t c text sp =
    let e : c.passed.result ≡ first_of (out_faults (g.N.Names.pid_of c.args.names.now) (g.N.Names.owner_of c.args.names.now) c.args.me (policy_of c.args.tree.now)) = cc (c.passed.ensures, c.node.ensures) in
    out_first (g.N.Names.pid_of c.args.names.now) (g.N.Names.owner_of c.args.names.now) c.args.me (policy_of c.args.tree.now) c.passed.result e text sp
