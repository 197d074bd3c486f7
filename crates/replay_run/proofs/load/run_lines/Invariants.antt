use Rattle.replay_run.specs.Load.{Loaded}
use Rattle.replay_run.proofs.load.run_lines.Given as goal

-- the lines so far were run
abbrev pub invariant-loop-number : goal.invariant-loop-number
invariant-loop-number g l = Loaded l.seed l.number l.tally l.sdx l.fn.steps l.steps
