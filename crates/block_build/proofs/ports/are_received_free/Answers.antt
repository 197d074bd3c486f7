-- The next result names none of the ports, and in the end none is left.
use Rattle.std.proofs.Common.{◌≡◌, ◌<◌, false, get_or, length, arith, sym, ap, ◌∙◌}
use Rattle.net_types.specs.Headers.{no_change}
use Rattle.net_types.specs.declared.address.PortNo.{PortNo}
use Rattle.net_types.specs.declared.headers.Loc.{Loc}
use Rattle.net_types.specs.declared.headers.Loc.TheVariants.{Stay}
use Rattle.place_sets.specs.Places.{has_place}
use Rattle.block_build.proofs.TakenLemmas.{all-done, one-done, out-same, received-go}
use Rattle.block_build.specs.Ports.{GoesFree, is_taken}
use Rattle.block_build.proofs.ports.are_received_free.Goals as goal
use Rattle.block_build.proofs.ports.are_received_free.Goals.{in-Out+else-has, in_default}

pub loop-pair-preserved : goal.loop-pair-preserved
loop-pair-preserved c = λ i stands.
    let ports = c.args.ports.now in
    let items = c.args.items.now in
    let at = c.loop-pair.pair-index in
    let y = get_or items at (no_change, Stay) in
    let within : at < length items = omega arith in
    let this : GoesFree ports y = λ port goes. elim c.match-pair.branch [
      | in-Out+else-has w ↦
          let same : w.in-Out.port ≡ port = out-same w.in-Out.port port (sym w.in-Out.is ∙ goes) in
          ap (λ (p : PortNo). has_place ports p.0) (sym same) ∙ sym w.has.ensures ∙ w.if-has.false
      | in_default w ↦ absurd (w.in_default.not-Out port goes)
    ] in
    one-done (GoesFree ports) (GoesFree ports) items at (no_change, Stay) within (λ x p. p) this c.loop-pair.invariant i stands

pub returns : goal.returns
returns c = λ yes free.
    let ports = c.args.ports.now in
    received-go (λ (loc : Loc). is_taken ports loc ≡ false) c.args.hop c.args.items.now free
    (all-done (GoesFree ports) c.args.items.now c.loop-pair.pair-index (omega arith) c.loop-pair.invariant)
