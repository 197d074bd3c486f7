-- One more cube.
use Rattle.std.proofs.Common.{sym, subst}
use Rattle.net_types.proofs.MeetLemmas.{IsMeet-everything}
use Rattle.net_types.specs.Meets.{IsMeet}
use Rattle.block_build.proofs.ClosedLemmas.{meet_kept}
use Rattle.block_build.proofs.tested.push_all.Goals as goal

pub loop-field-init : goal.loop-field-init
loop-field-init c = record {
  meet = subst (IsMeet c.args.tests.now.items) (sym c.everything-whole.ensures) (IsMeet-everything c.args.tests.now.items);
  kept = λ d k. k;
}

pub loop-field-preserved : goal.loop-field-preserved
loop-field-preserved c = record {
  meet =
      c.narrowed-whole.ensures c.push_test.new.tests.items
      (meet_kept c.loop-field.tests.items c.push_test.new.tests.items c.loop-field.whole c.in_ok-push_test.ensures.kept c.loop-field.invariant.meet)
      c.in_ok-push_test.ensures.there;
  kept = λ d k. c.in_ok-push_test.ensures.kept d (c.loop-field.invariant.kept d k);
}
