use Rattle.std.proofs.Common.{◌≤◌, length, ap, subst, sym, ◌∙◌, [], ◌∷◌, ◌++◌, ◌-◌, ◌+◌}
use Rattle.route_server.specs.Rows.{nothings}
use Rattle.route_server.proofs.ExportLaws.{pad_more, pad_all, padded_long}
use Rattle.route_server.proofs.export.padded.Goals as goal

pub loop-place-init : goal.loop-place-init
loop-place-init c = ap (λ xs. xs ++ nothings (c.args.count - length c.args.rules.now)) c.in_ok-after.ensures

pub loop-place-preserved : goal.loop-place-preserved
loop-place-preserved c = ap (λ xs. xs ++ nothings (c.args.count - (c.loop-place.place + 1))) (c.in_ok-push.ensures.items ∙ ap (λ x. c.loop-place.after.items ++ x ∷ []) c.new.ensures) ∙ pad_more c.args.count c.loop-place.place c.loop-place.after.items _ c.loop-place-test.true c.loop-place.invariant

pub returns-clause-padded : goal.returns-clause-padded
returns-clause-padded c = pad_all c.args.count c.loop-place.place c.loop-place.after.items _ c.loop-place-test.false c.loop-place.invariant

pub returns-clause-long : goal.returns-clause-long
returns-clause-long c = subst (λ xs. c.args.count ≤ length xs) (sym (pad_all c.args.count c.loop-place.place c.loop-place.after.items _ c.loop-place-test.false c.loop-place.invariant)) (padded_long c.args.rules.now c.args.count)
