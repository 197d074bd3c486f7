use Rattle.std.proofs.Common.{◌≡◌, ◌≤◌, [], List, ℕ, ◌++◌, length}
use Rattle.events.specs.Text.{reply_text}
use Rattle.replay_run.specs.Sending.{IsSent}
use Rattle.replay_run.proofs.progress.send_reply.Given as goal

-- the pieces before those that are left are sent
abbrev pub invariant-loop-piece : goal.invariant-loop-piece
invariant-loop-piece g l = record {
  sent : (done : List ℕ) × (reply_text l.number l.event l.reply ≡ done ++ l.left) × IsSent (g.K.Sink.held l.fn.sink) (g.K.Sink.held l.sink) l.fn.text.items done l.text.items [];
  later : g.K.Sink.faults l.fn.sink ≤ g.K.Sink.faults l.sink;
}

abbrev pub decreases-loop-piece : goal.decreases-loop-piece
decreases-loop-piece g l = length l.left
