use Rattle.std.proofs.Common.{◌≡◌, take}
use Rattle.net_types.proofs.copy.ItemsTryCopy.copy.Given as goal

-- the twin has what was gone over
abbrev pub invariant-loop-item : goal.invariant-loop-item
invariant-loop-item g l = l.twin.items ≡ take l.item-index l.item-items
