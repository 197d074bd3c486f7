use Rattle.std.proofs.Common.{arith}
use Rattle.policy_syntax.specs.Views.{policy_of}
use Rattle.policy_syntax.proofs.Answered.{ok_said, err_said, found_said, reads_said, never_long, back_said}
use Rattle.policy_syntax.proofs.text.parse.Goals as goal

pub returns-clause-ok : goal.returns-clause-ok
returns-clause-ok c = ok_said policy_of 8192 64 c.args.text.now c.if-text-gt8192.false c.read.result c.read.ensures

pub returns-clause-err : goal.returns-clause-err
returns-clause-err c = err_said policy_of 8192 64 c.args.text.now c.if-text-gt8192.false c.read.result c.read.ensures

pub returns-clause-found : goal.returns-clause-found
returns-clause-found c = found_said policy_of 8192 64 c.args.text.now c.if-text-gt8192.false c.read.result c.read.ensures

pub returns-clause-reads : goal.returns-clause-reads
returns-clause-reads c = λ short. reads_said policy_of c.args.text.now c.read.result c.read.ensures

pub returns-clause-long : goal.returns-clause-long
returns-clause-long c = (
  λ e. absurd (never_long policy_of 8192 64 c.args.text.now c.if-text-gt8192.false c.read.result c.read.ensures e),
  λ long. let short = c.if-text-gt8192.false in absurd (omega (arith, long, short)),
)

pub returns-clause-back : goal.returns-clause-back
returns-clause-back c = back_said policy_of 8192 64 c.args.text.now c.if-text-gt8192.false c.read.result c.read.ensures
