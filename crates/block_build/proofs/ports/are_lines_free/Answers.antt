-- The next rule leaves by none of the ports, and in the end none is left.
use Rattle.std.proofs.Common.{◌≡◌, ◌<◌, false, List, get_or, length, arith, sym, ◌∙◌, subst}
use Rattle.classifier.specs.Items.{Item}
use Rattle.classifier.specs.declared.line.Line.{Line}
use Rattle.net_types.specs.declared.headers.Loc.TheVariants.{Out}
use Rattle.block_build.proofs.TakenLemmas.{all-done, lines-received, one-done}
use Rattle.block_build.specs.Ports.{AreFree, is_taken}
use Rattle.block_build.specs.Receivers.{received_items}
use Rattle.block_build.proofs.ports.are_lines_free.Goals as goal

pub loop-line-preserved : goal.loop-line-preserved
loop-line-preserved c =
    let free = λ (y : Line). AreFree c.args.ports.now (received_items c.args.hop y.results) in
    let lines = c.args.lines.now in
    let at = c.loop-line.line-index in
    let within : at < length lines = omega arith in
    let y = c.line-item.result in
    let hop : is_taken c.args.ports.now (Out c.args.hop) ≡ false = sym c.is_taken.ensures ∙ c.if-is_taken.false in
    let this : free (get_or lines at y) = subst free c.line-item.is
    (subst (λ (items : List Item). AreFree c.args.ports.now (received_items c.args.hop items)) c.items.ensures (c.are_received_free.ensures c.if-not-are_received_free.false hop)) in
    one-done free free lines at y within (λ x p. p) this c.loop-line.invariant

pub returns : goal.returns
returns c = λ yes.
    let ports = c.args.ports.now in
    let hop = c.args.hop in
    lines-received (AreFree ports) hop c.args.lines.now
    (all-done (λ (y : Line). AreFree ports (received_items hop y.results)) c.args.lines.now c.loop-line.line-index (omega arith) c.loop-line.invariant)
