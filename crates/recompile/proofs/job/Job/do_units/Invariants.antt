-- The units so far are done.
use Rattle.std.proofs.Common.{◌≡◌, ◌≤◌, ◌+◌}
use Rattle.recompile.specs.Covering.{IsKeptUp}
use Rattle.recompile.specs.Setting.{setting}
use Rattle.recompile.specs.Units.{NeedsFewer}
use Rattle.recompile.proofs.job.Job.do_units.Given as goal

abbrev pub invariant-loop : goal.invariant-loop
invariant-loop g l = record {
  kept : IsKeptUp (setting l.classes (g.B.Blocks.installed l.switch).table) l.self;
  owed : l.self.owed ≡ l.fn.self.owed;
  done : NeedsFewer (setting l.classes (g.B.Blocks.installed l.switch).table) l.counter l.fn.self l.self;
  steps : l.steps ≤ l.fn.steps + l.counter;
}
