use Rattle.std.proofs.Common.{◌≡◌, take}
use Rattle.fast_path.specs.Pairs.{untold}
use Rattle.fast_path.proofs.pairs.untold.Given as goal

-- those among the tags so far
abbrev pub invariant-loop-tag : goal.invariant-loop-tag
invariant-loop-tag l = l.dead.items ≡ untold l.adverts.told (take l.tag-index l.tags)
