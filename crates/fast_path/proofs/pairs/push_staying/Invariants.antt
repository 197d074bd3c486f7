use Rattle.std.proofs.Common.{◌≡◌, ◌++◌, take}
use Rattle.fast_path.specs.Pairs.{staying}
use Rattle.fast_path.proofs.pairs.push_staying.Given as goal

-- those among the pairs so far
abbrev pub invariant-loop-pair : goal.invariant-loop-pair
invariant-loop-pair l = l.pairs.items ≡ l.initial.pairs.items ++ staying l.gone (take l.pair-index l.rebuild)
