-- What is right for a view is right for the policies, whether it is built by the view or was before.
use Rattle.std.proofs.Common.{ap, subst, ◌∙◌}
use Rattle.std.specs.Prelude.{IfSome}
use Rattle.block_build.specs.Right.{are_for_any_port}
use Rattle.fast_path.proofs.LastLemmas.{lasts-more}
use Rattle.fast_path.specs.Last.{IsRightByViews}
use Rattle.fast_path.proofs.building.block_of.Goals as goal

pub returns-in-Some-clause-right : goal.returns-in-Some-clause-right
returns-in-Some-clause-right g c = λ ps of.
    let all = c.args.views.now in
    let part = c.args.part.now in
    let whole = c.requires.whole in
    let again : IsRightByViews all part c.in-Some.block = subst (λ o. IfSome o (IsRightByViews all part)) c.in-Some.is c.in_ok-block.ensures.right in
    c.right_for_policies.ensures ps part c.args.port again.view c.in-Some.block whole.best
    (c.views_are_of.ensures ps all part again.view of whole.sender whole.exporters again.outbound again.inbound) (again.right c.args.port)

pub noted-requires-clause-right : goal.noted-requires-clause-right
noted-requires-clause-right g c = λ any.
    let view = c.in_ok-view.ensures in
    record {
      view = c.in_ok-view.view;
      outbound = view.outbound;
      inbound = view.receivers;
      right = c.in_ok-block-2.ensures.anywhere (ap are_for_any_port view.outbound ∙ any);
    }

pub returns-clause-right : goal.returns-clause-right
returns-clause-right g c = λ ps of.
    let part = c.args.part.now in
    let whole = c.requires.whole in
    let view = c.in_ok-view.ensures in
    c.right_for_policies.ensures ps part c.args.port c.in_ok-view.view c.in_ok-block-2.block whole.best
    (c.views_are_of.ensures ps c.args.views.now part c.in_ok-view.view of whole.sender whole.exporters view.outbound view.receivers)
    c.in_ok-block-2.ensures.right

pub returns-in-Some-clause-last : goal.returns-in-Some-clause-last
returns-in-Some-clause-last g c = λ next. lasts-more c.args.views.now c.args.blocks.now (next, c.in-Some.block) c.args.lasts.now c.requires.last

pub noted-requires-clause-last : goal.noted-requires-clause-last
noted-requires-clause-last g c = record { few = c.requires.last.few; many = c.requires.last.many }
