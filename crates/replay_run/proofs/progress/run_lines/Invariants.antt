use Rattle.std.proofs.Common.{◌≡◌, ℕ, ◌+◌, ◌≤◌, List, ◌++◌, length}
use Rattle.replay_run.specs.Progress.{RunsOn}
use Rattle.replay_run.proofs.progress.run_lines.Given as goal

-- what stands before the rest is run
abbrev pub invariant-loop-line : goal.invariant-loop-line
invariant-loop-line g l = record {
  run : (front : List ℕ) × (l.piece ≡ front ++ l.rest) × RunsOn (g.K.Sink.held l.fn.sink) (g.K.Sink.held l.sink) l.fn.text.items l.text.items l.fn.progress l.progress l.fn.sdx l.sdx l.fn.steps l.steps front;
  number : l.progress.number + length l.rest ≤ l.fn.progress.number + length l.piece;
  later : g.K.Sink.faults l.fn.sink ≤ g.K.Sink.faults l.sink;
}

abbrev pub decreases-loop-line : goal.decreases-loop-line
decreases-loop-line g l = length l.rest
