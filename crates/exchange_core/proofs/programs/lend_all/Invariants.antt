use Rattle.std.proofs.Common.{◌≡◌, ◌++◌, map, take}
use Rattle.exchange_core.specs.Programs.{lent_of}
use Rattle.exchange_core.proofs.programs.lend_all.Given as goal

-- the classifiers so far are lent
abbrev pub invariant-loop-both : goal.invariant-loop-both
invariant-loop-both l = l.views ≡ l.initial.views ++ map lent_of (take l.both-index l.programs)
