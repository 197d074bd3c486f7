use Rattle.std.proofs.Common.{◌≡◌, [], drop}
use Rattle.policy_compile.specs.Sets.{adds, same_fields, followed}
use Rattle.policy_compile.proofs.mods.chained.Given as goal

-- what is left makes the whole
abbrev pub invariant-loop-first : goal.invariant-loop-first
invariant-loop-first l = adds same_fields l.sets.keys (followed (drop l.first-index l.firsts) l.nexts) ≡ adds same_fields [] (followed l.firsts l.nexts)
