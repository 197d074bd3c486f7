-- Where all the rules are there they are right, and in any case there are no more than the cells.
use Rattle.std.proofs.Common.{◌≡◌, List, [], sym, subst, ◌∙◌}
use Rattle.block_build.proofs.PortLemmas.{restricted_any}
use Rattle.block_build.proofs.RightBlocks.{right-built, lines_within}
use Rattle.block_build.proofs.ShapeBlocks.{own-meets, their-meets}
use Rattle.block_build.specs.Bounds.{IsBuilt}
use Rattle.block_build.specs.Right.{view_atoms}
use Rattle.block_build.specs.Receivers.{receivers}
use Rattle.block_build.specs.Spreads.{restricted}
use Rattle.block_build.specs.Views.{inbound_of}
use Rattle.classifier.specs.Lines.{add_lines}
use Rattle.classifier.specs.declared.line.Line.{Line}
use Rattle.block_build.proofs.building.lines_for.Goals as goal

pub returns-clause-right : goal.returns-clause-right
returns-clause-right c = λ within.
    let view = c.args.view.now in
    let part = c.args.part.now in
    let made = c.in_ok-lines.ensures in
    right-built view c.args.port part c.known.ensures c.requires.best c.requires.once c.requires.all c.args.limit c.in_ok-lines.lines.items made within
    (made.meets (view_atoms view c.args.port part) (their-meets (inbound_of view) part c.args.port view.outbound) (own-meets (inbound_of view) part c.args.port view.outbound))

pub returns-clause-anywhere : goal.returns-clause-anywhere
returns-clause-anywhere c = λ within any port.
    let view = c.args.view.now in
    let part = c.args.part.now in
    let same : restricted c.args.port view.outbound ≡ restricted port view.outbound = restricted_any c.args.port view.outbound any ∙ sym (restricted_any port view.outbound any) in
    let made = subst (λ (xs : List Line). IsBuilt c.args.limit part.best part.offers (receivers (inbound_of view) part.offers) (add_lines [] xs) c.in_ok-lines.lines.items) same c.in_ok-lines.ensures in
    right-built view port part c.known.ensures c.requires.best c.requires.once c.requires.all c.args.limit c.in_ok-lines.lines.items made within
    (made.meets (view_atoms view port part) (their-meets (inbound_of view) part port view.outbound) (own-meets (inbound_of view) part port view.outbound))

pub returns-clause-cells : goal.returns-clause-cells
returns-clause-cells c =
    let view = c.args.view.now in
    let part = c.args.part.now in
    let made = c.in_ok-lines.ensures in
    lines_within (view_atoms view c.args.port part) c.in_ok-lines.lines.items made.differ
    (made.meets (view_atoms view c.args.port part) (their-meets (inbound_of view) part c.args.port view.outbound) (own-meets (inbound_of view) part c.args.port view.outbound))
