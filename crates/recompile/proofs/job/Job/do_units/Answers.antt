-- Each unit is one fewer, and after the last one nothing is to do.
use Rattle.std.proofs.Common.{◌∙◌, refl, arith}
use Rattle.recompile.proofs.CoverLemmas.{fewer_all, fewer_none, fewer_then, fewer_less}
use Rattle.recompile.specs.Setting.{Setting, setting}
use Rattle.recompile.proofs.job.Job.do_units.Goals as goal

pub loop-init : goal.loop-init
loop-init g c = record {
  kept = c.requires;
  owed = refl;
  done = fewer_none (setting c.args.classes.now (g.B.Blocks.installed c.args.switch.now).table) c.args.self.now;
  steps = omega arith;
}

pub loop-preserved : goal.loop-preserved
loop-preserved g c =
    let s : Setting = setting c.args.classes.now (g.B.Blocks.installed c.args.switch.now).table in
    record {
      kept = c.do_one.ensures.kept;
      owed = c.do_one.ensures.owed ∙ c.loop.invariant.owed;
      done = fewer_then s c.args.self.now c.loop.self c.do_one.new.self c.loop.counter 1 c.loop.invariant.done (c.in_ok-do_one.ensures.done c.if-not-branch.false);
      steps = let before = c.loop.invariant.steps in let one = c.do_one.ensures.steps in omega (arith, before, one);
    }

pub returns-clause-done : goal.returns-clause-done
returns-clause-done g c =
    fewer_less (setting c.args.classes.now (g.B.Blocks.installed c.args.switch.now).table) c.args.self.now c.loop.self c.loop.counter c.args.count c.loop-test.false c.loop.invariant.done

pub returns-then-not-branch-clause-done : goal.returns-then-not-branch-clause-done
returns-then-not-branch-clause-done g c =
    fewer_all (setting c.args.classes.now (g.B.Blocks.installed c.args.switch.now).table) c.args.self.now c.do_one.new.self c.args.count (c.in_ok-do_one.ensures.none c.if-not-branch.true)
