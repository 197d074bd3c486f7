-- The length so far.
use Rattle.std.proofs.Common.{◌≡◌, length, min, take, flat_map}
use Rattle.net_types.specs.Updates.{attribute}
use Rattle.net_types.specs.declared.route.Unknown.{Unknown}
use Rattle.bgp_update.proofs.lengths.unknown_len.Given as goal

abbrev pub invariant-loop-attribute : goal.invariant-loop-attribute
invariant-loop-attribute l = l.total ≡ min 65535 (length (flat_map (λ (u : Unknown). attribute 224 u.kind u.value) (take l.attribute-index l.unknown)))
