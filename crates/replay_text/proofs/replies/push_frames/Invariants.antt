use Rattle.std.proofs.Common.{◌≡◌, ◌++◌, take, flat_map}
use Rattle.events.specs.Text.{frame_text}
use Rattle.replay_text.proofs.replies.push_frames.Given as goal

abbrev pub invariant-loop-frame : goal.invariant-loop-frame
invariant-loop-frame l = l.text.items ≡ l.fn.text.items ++ flat_map frame_text (take l.frame-index l.frames)
