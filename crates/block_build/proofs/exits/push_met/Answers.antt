-- A rule whose cube was met last adds nothing; behind one that was added its cube is past.
use Rattle.std.proofs.Common.{◌≡◌, true, [], List, sym, ◌∙◌, subst}
use Rattle.classifier.specs.Items.{add_all}
use Rattle.classifier.specs.Lines.{is_shadowed, line}
use Rattle.classifier.specs.declared.line.Line.{Line}
use Rattle.block_build.proofs.PastLemmas.{met_past, past_added}
use Rattle.block_build.specs.Bounds.{IsPast}
use Rattle.block_build.specs.Receivers.{received_items}
use Rattle.block_build.proofs.exits.push_met.Goals as goal

pub returns-in_ok-push_joined-clause-past : goal.returns-in_ok-push_joined-clause-past
returns-in_ok-push_joined-clause-past c =
    subst (λ (zs : List Line). is_shadowed zs (line [] c.in-Some.cube) ≡ true) (sym c.in_ok-push_joined.ensures.lines)
    (past_added c.args.lines.now.items (add_all c.args.x.now.results (received_items c.args.hop c.args.y.now.results)) c.in-Some.cube)

pub returns-else-not-is_last-clause-lines : goal.returns-else-not-is_last-clause-lines
returns-else-not-is_last-clause-lines c =
    met_past c.args.hop c.args.x.now c.args.y.now c.in-Some.cube c.args.lines.now.items (sym c.meet.ensures.value ∙ c.in-Some.is)
    (subst (λ last. IsPast last c.args.lines.now.items) (c.is_last.ensures c.if-not-is_last.false) c.requires.past)
