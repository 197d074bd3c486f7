use Rattle.std.proofs.Common.{◌≡◌, map, drop}
use Rattle.policy_compile.specs.Sets.{adds, same_fields, after}
use Rattle.policy_compile.proofs.mods.push_followed.Given as goal

-- what is left makes the whole
abbrev pub invariant-loop-next : goal.invariant-loop-next
invariant-loop-next l = adds same_fields l.sets.keys (map (after l.first) (drop l.next-index l.nexts)) ≡ adds same_fields l.fn.sets.keys (map (after l.first) l.nexts)
