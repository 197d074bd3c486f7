-- The ones so far are written.
use Rattle.std.proofs.Common.{◌≡◌, ◌++◌, [], take, flat_map}
use Rattle.std.specs.Prelude.{nat_le, if◌then◌else◌}
use Rattle.net_types.specs.Updates.{attribute}
use Rattle.net_types.specs.declared.route.Unknown.{Unknown}
use Rattle.bgp_update.proofs.encoding.push_highest.Given as goal

abbrev pub invariant-loop-unknown : goal.invariant-loop-unknown
invariant-loop-unknown l = l.out.items ≡ l.fn.out.items ++ flat_map (λ (u : Unknown). if nat_le 17 u.kind then attribute 224 u.kind u.value else []) (take l.unknown-index l.list)
