-- The ones so far are written.
use Rattle.std.proofs.Common.{◌≡◌, ◌++◌, [], take, flat_map}
use Rattle.std.specs.Prelude.{nat_le, nat_lt, ◌&&◌, if◌then◌else◌}
use Rattle.net_types.specs.Updates.{attribute}
use Rattle.net_types.specs.declared.route.Unknown.{Unknown}
use Rattle.bgp_update.proofs.encoding.push_middle.Given as goal

abbrev pub invariant-loop-unknown : goal.invariant-loop-unknown
invariant-loop-unknown l = l.out.items ≡ l.fn.out.items ++ flat_map (λ (u : Unknown). if nat_le 1 u.kind && nat_lt u.kind 17 then attribute 224 u.kind u.value else []) (take l.unknown-index l.list)
