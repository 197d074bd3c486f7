-- The rule is joined with the first one that holds it, and the rules stay closed.
use Rattle.std.proofs.Common.{◌≡◌, ◌||◌, false, List, sym, ◌∙◌, subst}
use Rattle.classifier.specs.Seen.{is_there}
use Rattle.classifier.specs.declared.line.Line.{Line}
use Rattle.net_types.specs.Cubes.{everything}
use Rattle.block_build.proofs.ClosedLemmas.{closed_once, joined_once}
use Rattle.block_build.specs.Closed.{AreClosed, AreThere}
use Rattle.block_build.specs.Groups.{lines_within}
use Rattle.block_build.proofs.uncut.push_uncut.Goals as goal

pub returns-in_ok-push_own-in-Some-clause-lines : goal.returns-in_ok-push_own-in-Some-clause-lines
returns-in_ok-push_own-in-Some-clause-lines c =
    c.in_ok-push_own-in-Some.ensures.lines
    ∙ joined_once c.args.tests.now c.args.lines.now.items c.args.x.now c.args.hop (lines_within c.args.groups.now) c.in-Some.y.now c.requires.meets c.requires.closed
    (subst (λ (kept : List Line). AreThere kept c.args.x.now.cube c.args.tests.now) c.deref-2.ensures.value (c.are_there.ensures c.if-not-are_there.false))
    (subst (λ (kept : List Line). (is_there kept c.args.x.now.cube || is_there kept everything) ≡ false) c.deref.ensures.value (sym c.is_hidden.ensures ∙ c.if-is_hidden.false))
    (sym c.in-Some.ensures)

pub returns-in_ok-push_own-in-Some-clause-closed :
    goal.returns-in_ok-push_own-in-Some-clause-closed
returns-in_ok-push_own-in-Some-clause-closed c =
    subst (AreClosed c.args.tests.now) (sym c.in_ok-push_own-in-Some.ensures.lines)
    (closed_once c.args.tests.now c.args.lines.now.items c.args.x.now c.args.hop (lines_within c.args.groups.now) c.in-Some.y.now c.requires.closed
    (subst (λ (kept : List Line). AreThere kept c.args.x.now.cube c.args.tests.now) c.deref-2.ensures.value (c.are_there.ensures c.if-not-are_there.false))
    (subst (λ (kept : List Line). (is_there kept c.args.x.now.cube || is_there kept everything) ≡ false) c.deref.ensures.value (sym c.is_hidden.ensures ∙ c.if-is_hidden.false)))
