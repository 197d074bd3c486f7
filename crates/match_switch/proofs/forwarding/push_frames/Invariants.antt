-- The frames of the actions so far.
use Rattle.std.proofs.Common.{◌≡◌, ◌++◌, map, take}
use Rattle.events.specs.Table.{done_by, frame_of}
use Rattle.match_switch.proofs.forwarding.push_frames.Given as goal

abbrev pub invariant-loop-action : goal.invariant-loop-action
invariant-loop-action l = l.frames.items ≡ l.fn.frames.items ++ map (frame_of l.names.ports l.frame) (map (done_by l.fields) (take l.action-index l.actions))
