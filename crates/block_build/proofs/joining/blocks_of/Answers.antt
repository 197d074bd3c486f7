-- Where no rule tells by which port a packet has to come in, those at the port are the sender's.
use Rattle.std.proofs.Common.{[], List, IfOk, sym, ap, ◌∙◌, subst}
use Rattle.classifier.specs.Lines.{add_lines}
use Rattle.classifier.specs.declared.line.Line.{Line}
use Rattle.block_build.proofs.PortLemmas.{own_at_port}
use Rattle.block_build.specs.Bounds.{IsBuilt}
use Rattle.block_build.specs.Receivers.{receivers}
use Rattle.block_build.specs.Spreads.{restricted}
use Rattle.block_build.specs.Views.{inbound_of}
use Rattle.block_build.proofs.joining.blocks_of.Goals as goal

pub returns-then-are_for_any_port : goal.returns-then-are_for_any_port
returns-then-are_for_any_port c =
    let own = c.outbound-own.ensures in
    let part = c.args.part.now in
    let rules = c.outbound-own.result.now in
    let same =
    sym (own_at_port c.args.port rules (sym c.are_for_any_port.ensures ∙ c.if-are_for_any_port.true) own.distinct own.total)
    ∙ ap (λ xs. add_lines [] (restricted c.args.port xs)) own.rules in
    subst (λ (xs : List Line). IfOk c.within_part.result (λ v. IsBuilt c.args.limit part.best part.offers (receivers (inbound_of c.args.view.now) part.offers) xs v.items)) same c.within_part.ensures
