-- The meet of the fields is the cube, or the cube is put in itself.
use Rattle.std.proofs.Common.{subst}
use Rattle.net_types.proofs.MeetLemmas.{IsMeet-member}
use Rattle.net_types.specs.Meets.{IsMeet}
use Rattle.block_build.proofs.tested.push_tests_of.Goals as goal

pub returns-then-is_same-clause-meet : goal.returns-then-is_same-clause-meet
returns-then-is_same-clause-meet c = subst (IsMeet c.push_all.new.tests.items) (c.is_same.ensures c.if-is_same.true) c.in_ok-whole.ensures.meet

pub returns-clause-meet : goal.returns-clause-meet
returns-clause-meet c = IsMeet-member c.push_test.new.tests.items c.args.cube.now c.in_ok-push_test.ensures.there

pub returns-clause-kept : goal.returns-clause-kept
returns-clause-kept c = λ d k. c.in_ok-push_test.ensures.kept d (c.in_ok-whole.ensures.kept d k)
