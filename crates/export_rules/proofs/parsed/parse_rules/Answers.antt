use Rattle.std.proofs.Common.{arith}
use Rattle.export_rules.proofs.Answered.{ok_said, err_said, found_said, value_said, place_said, never_long}
use Rattle.export_rules.proofs.parsed.parse_rules.Goals as goal

pub returns-clause-ok : goal.returns-clause-ok
returns-clause-ok c = ok_said (λ rules. rules) 8192 c.args.text.now c.if-text-gt8192.false c.read.result c.read.ensures

pub returns-clause-err : goal.returns-clause-err
returns-clause-err c = err_said (λ rules. rules) 8192 c.args.text.now c.if-text-gt8192.false c.read.result c.read.ensures

pub returns-clause-found : goal.returns-clause-found
returns-clause-found c = found_said (λ rules. rules) 8192 c.args.text.now c.if-text-gt8192.false c.read.result c.read.ensures

pub returns-clause-value : goal.returns-clause-value
returns-clause-value c = value_said (λ rules. rules) 8192 c.args.text.now c.if-text-gt8192.false c.read.result c.read.ensures

pub returns-clause-place : goal.returns-clause-place
returns-clause-place c = place_said (λ rules. rules) 8192 c.args.text.now c.if-text-gt8192.false c.read.result c.read.ensures

pub returns-clause-long : goal.returns-clause-long
returns-clause-long c = (
  λ e. absurd (never_long (λ rules. rules) 8192 c.args.text.now c.if-text-gt8192.false c.read.result c.read.ensures e),
  λ long. let short = c.if-text-gt8192.false in absurd (omega (arith, long, short)),
)
