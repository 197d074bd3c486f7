-- By what the map holds for the longest prefix.
use Rattle.std.proofs.Common.{rules}
use Rattle.border_router.proofs.router.Router.tag.Goals as goal

pub returns-clause-framed : goal.returns-clause-framed
returns-clause-framed c = record {
  ip = c.in-Some.next_hop.now;
  mac = c.in-Some-get.to;
  next_hop = search rules;
  known = search rules;
  is = search rules;
}
